-- Laws of the text ahead in its two buffers.
use Rattle.rules.proofs.Base.{◌≤◌, ◌+◌, ℕ, ◌-◌, ◌<◌, ◌∙◌, sym, ap, ◌≡◌, ◌++◌, arith, length, drop, length-append, length-drop, drop_of_length-le, drop-drop}
use Rattle.rules.specs.Bytes.{Bytes}
use Rattle.rules.specs.Source.{Source, ahead, advance, push_back}
use Rattle.expander.specs.declared.source.Position.{Position}
use Rattle.expander.specs.Source.{SourceIn, bytes_ahead}

module _ {text pending : Bytes} {p : Position} {x : Source} (m : SourceIn text pending p x) where
  -- how much pending text there is, and what is ahead
  pub pending_long : length x.pending ≡ length pending - p.from
  pending_long = ap length m.pending_is ∙ length-drop p.from pending

  pub ahead_is : ahead x ≡ drop p.from pending ++ drop p.taken text
  unfolding ahead
  ahead_is = rw (m.pending_is, m.rest_is)

  pub ahead_long : length (ahead x) ≡ (length pending - p.from) + (length text - p.taken)
  unfolding ahead
  ahead_long =
      length-append x.pending x.rest
      ∙ omega (arith, pending_long, ap length m.rest_is, length-drop p.taken text)

  -- n bytes are taken, of the pending text alone
  pub taken_first : (n : ℕ) → n ≤ length pending - p.from → SourceIn text pending (record { from = p.from + n; taken = p.taken }) (advance n x)
  unfolding advance
  taken_first n h =
      let k : n - length x.pending ≡ 0 = omega (arith, pending_long) in
      record {
        from_in = omega (arith, m.from_in);
        taken_in = m.taken_in;
        pending_is = ap (drop n) m.pending_is ∙ drop-drop n p.from pending;
        rest_is = ap (λ (j : ℕ). drop j x.rest) k ∙ m.rest_is;
        taken_is = omega (arith, k, m.taken_is);
      }

  -- and beyond it
  pub taken_past :
      (n : ℕ) → length pending - p.from < n → n ≤ length (ahead x)
      → SourceIn text pending (record { from = length pending; taken = p.taken + (n - (length pending - p.from)) }) (advance n x)
  unfolding advance
  taken_past n h l =
      let j = n - (length pending - p.from) in
      let k : n - length x.pending ≡ j = omega (arith, pending_long) in
      record {
        from_in = omega arith;
        taken_in = omega (arith, m.taken_in, ahead_long);
        pending_is = drop_of_length-le x.pending {i = n} (omega (arith, pending_long)) ∙ sym (drop_of_length-le pending {i = length pending} (omega arith));
        rest_is = ap (λ (i : ℕ). drop i x.rest) k ∙ ap (drop j) m.rest_is ∙ drop-drop j p.taken text;
        taken_is = omega (arith, k, m.taken_is);
      }

-- what is lent from a position on is the text ahead
pub lent_is : {text pending t : Bytes} {p : Position} {x : Source} → SourceIn text pending p x → t ≡ bytes_ahead text pending p → t ≡ ahead x
lent_is h e = e ∙ sym (ahead_is h)

-- a result stands in front: the buffer then holds it from `from` on
pub pushed_back :
    {text pending pending' : Bytes} {p : Position} {x : Source} (w : Bytes) (from : ℕ) → SourceIn text pending p x → from ≤ length pending'
    → drop from pending' ≡ w ++ drop p.from pending → SourceIn text pending' (record { from = from; taken = p.taken }) (push_back w x)
unfolding push_back
pushed_back w from m h e =
    record {
      from_in = h;
      taken_in = m.taken_in;
      pending_is = ap (λ (l : Bytes). w ++ l) m.pending_is ∙ sym e;
      rest_is = m.rest_is;
      taken_is = m.taken_is;
    }
