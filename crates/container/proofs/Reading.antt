-- Reading numbers and chunks from a place on. Assumes nothing.
use Rattle.rules.proofs.Base.{◌≤◌, ◌+◌, ℕ, ◌-◌, ◌<◌, suc, ◌*◌, min, ◌∙◌, refl, sym, ap, ◌≡◌, Some, None, Option, [], ◌∷◌, arith, length, drop, take, get_or, length-drop, drop-drop, get_or-drop}
use Rattle.std.specs.Option.{option_map}
use Rattle.rules.specs.Bytes.{Bytes}
use Rattle.rules.specs.Chunks.{least_first, chunk_kind, Carried, and_byte, chunks_read}
use Rattle.rules.proofs.Sets.{and_bytes, none_owed, turn_other, turn_short, turn_on}

-- the first byte from a place on
pub first_at : (w : Bytes) (i : ℕ) → get_or (drop i w) 0 0 ≡ get_or w i 0
first_at w i = let z : i + 0 ≡ i = omega arith in get_or-drop i w 0 0 ∙ ap (λ (n : ℕ). get_or w n 0) z

-- the 32-bit number of four bytes
four : (l : Bytes) → 4 ≤ length l → least_first (take 4 l) ≡ get_or l 0 0 + get_or l 1 0 * 256 + get_or l 2 0 * 65536 + get_or l 3 0 * 16777216
unfolding least_first
four [] h = absurd (omega arith)
four (a ∷ []) h = absurd (omega arith)
four (a ∷ b ∷ []) h = absurd (omega arith)
four (a ∷ b ∷ c ∷ []) h = absurd (omega arith)
four (a ∷ b ∷ c ∷ d ∷ l) h = omega arith

pub four_at : (w : Bytes) (at : ℕ) → at + 4 ≤ length w → get_or w at 0 + get_or w (at + 1) 0 * 256 + get_or w (at + 2) 0 * 65536 + get_or w (at + 3) 0 * 16777216 ≡ least_first (take 4 (drop at w))
four_at w at h = omega (arith, four (drop at w) (omega (arith, length-drop at w)), first_at w at, get_or-drop at w 1 0, get_or-drop at w 2 0, get_or-drop at w 3 0)

-- ---- the place behind chunks, in a set of so many bytes

abbrev pub behind : ℕ → Option Carried → Option ℕ
behind size o = option_map (λ (c : Carried). size - length c.rest) o

-- bytes in front don't move it
behind_bytes : (size : ℕ) (xs : Bytes) (o : Option Carried) → behind size (and_bytes xs o) ≡ behind size o
unfolding and_bytes and_byte
behind_bytes size [] o = refl
behind_bytes size (x ∷ xs) o = one (and_bytes xs o) ∙ behind_bytes size xs o
  where
    one : (o : Option Carried) → behind size (and_byte x o) ≡ behind size o
    one None = refl
    one (Some c) = refl

-- what is read from i on ends where all ends
pub record Ending (w : Bytes) (at count i owed : ℕ) : Type 0 where
  pub inside : i ≤ length w
  pub same : behind (length w) (chunks_read owed (drop i w)) ≡ behind (length w) (chunks_read count (drop at w))

module _ {w : Bytes} {at count i owed : ℕ} (s : Ending w at count i owed) where
  -- none is still to come
  pub end_done : owed ≤ 0 → Some i ≡ behind (length w) (chunks_read count (drop at w))
  end_done h =
      let z : 0 ≡ owed = omega arith in
      let n : i ≡ length w - length (drop i w) = omega (arith, length-drop i w, s.inside) in
      ap Some n ∙ sym (ap (behind (length w)) (none_owed (drop i w))) ∙ ap (λ (m : ℕ). behind (length w) (chunks_read m (drop i w))) z ∙ s.same

  module _ (more : 0 < owed) {kind : ℕ} (due : kind ≡ min owed 128) where
    nothing : chunks_read owed (drop i w) ≡ None → None ≡ behind (length w) (chunks_read count (drop at w))
    nothing e = sym (ap (behind (length w)) e) ∙ s.same

    pub end_short : length w - i ≤ kind → None ≡ behind (length w) (chunks_read count (drop at w))
    unfolding chunk_kind
    end_short h = nothing (turn_short owed kind more due (drop i w) (omega (arith, length-drop i w)))

    pub end_other : (get_or w i 0 ≡ kind → ⊥) → None ≡ behind (length w) (chunks_read count (drop at w))
    unfolding chunk_kind
    end_other ne = nothing (turn_other owed kind more due (drop i w) (λ e. ne (sym (first_at w i) ∙ e)))

    pub end_on : kind < length w - i → get_or w i 0 ≡ kind → Ending w at count (i + (kind + 1)) (owed - kind)
    unfolding chunk_kind
    end_on h e =
        let n : i + suc kind ≡ i + (kind + 1) = omega arith in
        record {
          inside = omega arith;
          same =
              ap (λ (l : Bytes). behind (length w) (chunks_read (owed - kind) l)) (ap (λ (m : ℕ). drop m w) (sym n) ∙ sym (drop-drop (suc kind) i w))
              ∙ sym (behind_bytes (length w) (take kind (drop 1 (drop i w))) (chunks_read (owed - kind) (drop (suc kind) (drop i w))))
              ∙ sym (ap (behind (length w)) (turn_on owed kind more due (drop i w) (omega (arith, length-drop i w)) (first_at w i ∙ e)))
              ∙ s.same;
        }
