-- The library's names that the proofs of the crates use, in one place: numbers, equations, lists, and what closes a need. Assumes nothing.
pub use Prim.Native.Nat.{◌≤◌, ◌+◌, ℕ, ◌-◌, ◌<◌, suc, zero, ◌*◌, ◌^◌, ◌/◌, ◌%◌, min, pred, max, suc-le-suc}
pub use mathlib.Core.Path.{◌∙◌, refl, sym, ap, ◌≡◌, subst, ap₂, subst₂}
pub use mathlib.Core.Bool.{true, Bool, false, true≢false, ◌||◌, not, cond, ◌&&◌, or-true, and-eq-true_iff}
pub use mathlib.Core.Logic.{◌⊎◌, inl, inr, ⊎_elim}
pub use Rattle.std.specs.Prelude.{Option, None, Some, Result, Ok, Err}
pub use Rattle.std.proofs.lemmas.Option.{none-some, same_Some}
pub use mathlib.Core.List.{List, [], ◌++◌, ◌∷◌, append_assoc, append-nil, map}
pub use native.Mathlib.Nat.{add-zero, zero-add, not-suc-le-zero, le_of_suc-le-suc, le_trans, add-suc, suc-add, add_assoc, le_of_lt, one-mul, div-eq_of_lt, suc_inj, le-add_right, add-mul, mul-le-mul, le_refl, div-lt_self, le_of_eq, mul-le-mul_left, mod-lt, div-le_self, mod-le, mul-add, lt_of_le_of_lt, mul-lt-mul_of_pos_right, eq-or-lt_of_le, add_comm, pow-suc, lt_of_lt_of_le}
pub use native.Mathlib.Numerals.{add-one}
pub use native.Mathlib.Decide.{ℕ_discrete, dec_lt, dec_le}
pub use native.Mathlib.Omega.{arith}
pub use lib.Dec.{eqb, leb, ltb, lit<, eqb-zero-suc as eqb·zero-suc, eqb-suc-suc as eqb·suc-suc, lit≤}
pub use lib.IntN.{pos, ℤ, negsuc, suc_ℤ, pred_ℤ, neg_ℤ, nat_abs, sub_ℕ, ◌+ℤ◌, ◌-ℤ◌, ◌*ℤ◌}
pub use lib.ListN.{length, drop, take, get_or, length-append, length-drop, set, drop_of_length-le, length-set, length-take, replicate, take-append-drop, length-replicate, get_or-replicate, get_or-eq_default as List·getD-eq-default, get_or-append as List·getD-append, get_or-map as List·getD-map, length-map, replicate-append-replicate}
pub use lib.Seq.{length-take-le, drop-cons, drop-drop, get_or-take, take_all, get_or-drop, take-suc-set, get_or-set_same, get_or-set_other, take-suc, take_at, take-append-le, drop_at, paste, drop-set-lt, take-append_seam, set_split, take-take, drop-append-add, get_or-append-add, paste-suc, take-set-le, drop-length, take-nil, drop-append-le, take-length, paste-zero, take-add, drop-append_seam, set-get_or, drop-set-add, take-set-lt, split_at, take-append-add, get_or_at, set_at, length_paste_head, ext_get_or, append_snoc}
pub use borrow.Author.Tests.{eq-eqb, ne_eqb, le-leb, leb-true, lt-leb, leb-false, ltb-true, ltb-false, lt-ltb, not-true, not-false, eqb-true, le-ltb, eqb-false}
pub use borrow.Author.Rules.{rules}
