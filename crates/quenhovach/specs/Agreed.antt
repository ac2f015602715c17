-- The letter's third demand, of two calls from C: over the six numbers of each report and the bytes of the buffers.
use Rattle.std.specs.Prelude.{ℕ, ◌≤◌, ◌≡◌, true, false, List, [], ◌∷◌, take, get_or}
use Rattle.rules.specs.Bytes.{Bytes}
use Rattle.rules.specs.Answers.{is_stopped_number}
use Rattle.rules.specs.Run.{Setting, lengths}
use Rattle.rules.specs.Room.{stopper}
use Rattle.rules.specs.Contract.{Buffers}

-- 01 "The numbers of an answer", by their places in a report
abbrev pub number : List ℕ → ℕ
number r = get_or r 0 0

abbrev pub detail : List ℕ → ℕ
detail r = get_or r 1 0

abbrev pub steps : List ℕ → ℕ
steps r = get_or r 2 0

-- 01 "The written bytes are the first bytes of the output and of the error buffer, as many of each as its count says"
unfoldable pub written_bytes : List ℕ → Buffers → List Bytes
written_bytes r b = take (get_or r 4 0) b.output ∷ take (get_or r 5 0) b.errors ∷ []

-- 01 "What stopped a run"
unfoldable pub stopped_at : Setting → List ℕ → ℕ
stopped_at a r = stopper (lengths a) a.budget (number r) (detail r)

-- n, r and x are what the first call gives back, its report and the buffers after it, under the setting a; m, t and y after the second, under b,
-- nowhere smaller
pub record AgreeInNumbers (a b : Setting) (n m : ℕ) (r t : List ℕ) (x y : Buffers) : Type 0 where
  pub given : (n ≡ number r) × (m ≡ number t)
  pub same : is_stopped_number (number r) ≡ false → (t ≡ r) × (written_bytes t y ≡ written_bytes r x)
  pub further : is_stopped_number (number r) ≡ true → steps r ≤ steps t
  pub again : is_stopped_number (number r) ≡ true → stopped_at a r ≡ stopped_at b r → t ≡ r
