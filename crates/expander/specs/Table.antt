-- The definitions in force, as packed strings, and what looking one up answers.
use Rattle.std.specs.Prelude.{◌≡◌, ℕ, ◌+◌, ◌-◌, ◌*◌, ◌^◌, ◌<◌, ◌≤◌, Bool, true, false, List, [], ◌∷◌, ◌++◌, length, drop, slice_index_or, slice_range, Option, None, Some}
use Rattle.std.specs.declared.ops.ControlFlow.{ControlFlow}
use Rattle.std.specs.declared.ops.ControlFlow.TheVariants.{Break, Continue}
use Rattle.std.proofs.Common.{Bor, MutBor}
use Rattle.rules.specs.Bytes.{Bytes, same_bytes}
use Rattle.rules.specs.Table.{Meaning, text, predefined, needs_parenthesis, Definition, Table}
use Rattle.expander.specs.Limits.{most_lent, macro_count, table_ends_length}
use Rattle.hashing.specs.Hashing.{bucket_of}
use Rattle.expander.specs.Meanings.{number_at}
use Rattle.expander.specs.Buckets.{newest_in, Chained}
-- what stands past the last definition
unfoldable pub use Rattle.expander.specs.Buckets.{blank}
use Rattle.expander.specs.Packed.{Packs}
use Rattle.expander.specs.declared.packed.Packed.{Packed}
use Rattle.expander.specs.declared.table.Definitions.{Definitions}
use Rattle.expander.specs.declared.table.NewMeaning.{NewMeaning}
use Rattle.expander.specs.declared.table.NewMeaning.TheVariants as new
use Rattle.expander.specs.declared.table.Meaning.{Meaning as Looked}
use Rattle.expander.specs.declared.table.Meaning.TheVariants as looked

-- the text of a meaning; a predefined one has none
unfoldable pub meaning_text : Meaning → Bytes
meaning_text (text x) = x
meaning_text (predefined k) = []

-- name and text by turns, in order of arrival
unfoldable pub rows : List Definition → List Bytes
rows [] = []
rows (d ∷ ds) = d.name ∷ (meaning_text d.meaning ∷ rows ds)

-- the byte beside a definition: 0 for a text, else the predefined number
unfoldable pub meaning_number : Meaning → ℕ
meaning_number (text x) = 0
meaning_number (predefined k) = k

-- a predefined meaning can be told from a text
unfoldable pub Numbered : Meaning → Type 0
Numbered (text x) = Unit {0}
Numbered (predefined k) = 0 < k

-- a meaning by its text and its byte
pub record Means (m : Meaning) (x : Bytes) (k : ℕ) : Type 0 where
  pub text_is : meaning_text m ≡ x
  pub number_is : meaning_number m ≡ k
  pub numbered : Numbered m

-- the meaning that a name gets
unfoldable pub new_meaning : NewMeaning → Meaning
new_meaning (new.Text s) = text s.now
new_meaning (new.Predefined k) = predefined k

-- every name has a byte at least, and every meaning is told by its byte
unfoldable pub Sound : List Definition → Type 0
Sound [] = Unit {0}
Sound (d ∷ ds) = (0 < length d.name) × Numbered d.meaning × Sound ds

-- buffer 3, and beside it the ends, the bytes of the meanings and the chains of the buckets, hold the definitions
pub record DefinitionsIn (bytes : Bytes) (ends : List ℕ) (p : Packed) (ds : List Definition) : Type 0 where
  pub packs : Packs ends p.count bytes p.used (rows ds)
  pub sound : Sound ds
  pub numbers : (i : ℕ) → i < length ds → number_at ends i ≡ meaning_number (slice_index_or ds i blank).meaning
  pub chained : Chained ends ds
  pub bytes_most : length bytes ≤ most_lent
  pub ends_are : length ends ≡ table_ends_length

-- the strings are those of some definitions, whatever stands beside their ends
pub record RowsIn (ends : List ℕ) (count : ℕ) (bytes : Bytes) (used : ℕ) : Type 0 where
  pub definitions : List Definition
  pub packs : Packs ends count bytes used (rows definitions)

-- buffer 3 and what stands beside it hold some definitions: what functions ask
pub record ValidDefinitions (bytes : Bytes) (ends : List ℕ) (p : Packed) : Type 0 where
  pub definitions : List Definition
  pub holds : DefinitionsIn bytes ends p definitions

-- the same, of whatever count and length
pub record SomeDefinitions (bytes : Bytes) (ends : List ℕ) : Type 0 where
  pub packed : Packed
  pub valid : ValidDefinitions bytes ends packed

-- with the mask `own` they are a table
pub record TableIn (bytes : Bytes) (ends : List ℕ) (p : Packed) (own : ℕ) (t : Table) : Type 0 where
  pub holds : DefinitionsIn bytes ends p t.definitions
  pub own_is : t.own ≡ own
  pub own_few : own < 2 ^ macro_count

-- what a step of a search for w comes to, which has come to the definition of place and one `left`: its place, or where to go on
unfoldable pub visited_at : Bytes → List Definition → ℕ → ControlFlow ℕ ℕ
visited_at w ds left = elim (same_bytes w (slice_index_or ds (left - 1) blank).name) [ true ↦ Break (left - 1) | false ↦ Continue (newest_in (bucket_of w) ds (left - 1)) ]

-- a step that changes the definitions, by what may come of a call of it, makes of each table what f makes of it
abbrev pub Changes : (Definitions → MutBor Bytes → MutBor (List ℕ) → Bor Bytes → Definitions → MutBor Bytes → MutBor (List ℕ) → Type 0) → (Bytes → Table → Table) → Type 0
Changes may f =
    (d : Definitions) (p : MutBor Bytes) (e : MutBor (List ℕ)) (w : Bor Bytes) (r : Definitions) (p' : MutBor Bytes) (e' : MutBor (List ℕ)) → may d p e w r p' e'
    → (t : Table) → TableIn p.now e.now d.packed d.own t → TableIn p'.now e'.now r.packed r.own (f w.now t)

-- the meaning that looking a name up answers, over the strings of the definitions
unfoldable pub meaning_for : List Bytes → Looked → Option Meaning
meaning_for ss (looked.Text i) = Some (text (slice_index_or ss (2 * i + 1) []))
meaning_for ss (looked.Predefined k) = Some (predefined k)
meaning_for ss looked.Undefined = None

-- how many strings there are up to the text that it answers
unfoldable pub text_end : Looked → ℕ
text_end (looked.Text i) = 2 * i + 2
text_end (looked.Predefined k) = 0
text_end looked.Undefined = 0

-- what looking a name up answers is its meaning m
pub record Finds (ds : List Definition) (m : Option Meaning) (r : Looked) : Type 0 where
  pub is : m ≡ meaning_for (rows ds) r
  pub within : text_end r ≤ length (rows ds)

-- a name of the meaning that was looked up is plain text where no parenthesis follows
unfoldable pub plain_unopened : Looked → Bool
plain_unopened (looked.Text i) = false
plain_unopened (looked.Predefined k) = needs_parenthesis k
plain_unopened looked.Undefined = true

-- a definition's name and text, unless the name is w
unfoldable pub unless_named : Bytes → Bytes → Bytes → List Bytes
unless_named w x y = elim (same_bytes w x) [ true ↦ [] | false ↦ x ∷ y ∷ [] ]

-- a definition that a pass comes to, with its name from `from` up to `middle` and its text up to `end`, is put behind those kept, unless
-- it is of the name w; what stands behind it is as it was
pub record Sifted (w bytes : Bytes) (ends : List ℕ) (kept : Packed) (from middle end : ℕ) (bytes' : Bytes) (ends' : List ℕ) (r : Packed) : Type 0 where
  pub packs :
      (ss : List Bytes) → Packs ends kept.count bytes kept.used ss
      → Packs ends' r.count bytes' r.used
      (ss ++ unless_named w (slice_range bytes from middle) (slice_range bytes middle end))
  pub bytes_behind : drop end bytes' ≡ drop end bytes
  pub ends_behind : drop (kept.count + 2) ends' ≡ drop (kept.count + 2) ends
  pub count_most : r.count ≤ kept.count + 2
  pub used_most : r.used ≤ end
