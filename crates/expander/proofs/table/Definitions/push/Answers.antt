-- `expander::table::Definitions::push` meets its contract: the law `pushed_in`, of two strings pushed, a byte put and a chain joined. Assumes nothing.
use Rattle.rules.proofs.Base.{◌≤◌, ◌<◌, ◌+◌, ◌∙◌, ◌≡◌, refl, sym, ap, [], ◌++◌, ◌∷◌, arith, length, drop}
use Rattle.hashing.proofs.Laws.{bucket_below}
use Rattle.expander.specs.Limits.{bucket_count, meanings_start}
use Rattle.expander.specs.Table.{rows, meaning_text, new_meaning}
use Rattle.expander.proofs.Changing.{room_for_two, heads_stay, pushed_in}
use Rattle.expander.proofs.Parts.{kept_two}
use Rattle.expander.proofs.table.Definitions.push.Goals as goal
use Rattle.expander.proofs.table.Definitions.push.Goals.{After-push_string-packed, Start}

ends_room : (c : Start) → c.args.self.packed.count + 2 ≤ meanings_start
ends_room c = room_for_two c.requires.valid_definitions.holds (length c.args.name.now + length (meaning_text (new_meaning c.args.new))) (omega (arith, c.requires)) (omega (arith, c.requires))

-- the strings were pushed behind the others
kept : (c : After-push_string-packed)
    → drop (c.args.self.packed.count + 2) c.push_string-packed.new.ends ≡ drop (c.args.self.packed.count + 2) c.args.ends.now
kept c =
    let f = c.push_string-named in
    kept_two _ _ _ c.args.self.packed.count f.result.count f.ensures.count_value.0 c.push_string-packed.ensures.count_value.2 f.ensures.count_value.2

pub push_string-named-requires : goal.push_string-named-requires
push_string-named-requires c = record { count_in_bounds = omega (arith, ends_room (goal.at.push_string-named-requires c).Start, c.requires.valid_definitions.holds.ends_are); s_in_bounds = (omega (arith, c.requires), omega (arith, c.requires.valid_definitions.holds.bytes_most)) }

pub push_string-packed-requires : goal.push_string-packed-requires
push_string-packed-requires c =
    let f = c.push_string-named in record { count_in_bounds = omega (arith, ends_room (goal.at.push_string-packed-requires c).Start, f.ensures.count_value, f.auto.ends, c.requires.valid_definitions.holds.ends_are); s_in_bounds = (omega (arith, c.requires, ap length c.text.ensures, f.ensures.count_value, f.auto.bytes), omega (arith, c.requires.valid_definitions.holds.bytes_most, f.auto.bytes)) }

pub put-requires : goal.put-requires
put-requires c =
    let f = c.push_string-named in
    let g = c.push_string-packed in
    (g.auto.ends ∙ f.auto.ends ∙ c.requires.valid_definitions.holds.ends_are, omega (arith, ends_room (goal.at.put-requires c).Start))

pub join-requires : goal.join-requires
join-requires c =
    let f = c.push_string-named in
    let p = c.put in
    let b : c.bucket_of.result < bucket_count = omega (arith, c.bucket_of.ensures, bucket_below c.args.name.now) in (
      p.auto.ends ∙ c.push_string-packed.auto.ends ∙ f.auto.ends ∙ c.requires.valid_definitions.holds.ends_are,
      b,
      omega (arith, ends_room (goal.at.join-requires c).Start),
      heads_stay c.requires.valid_definitions.holds c.push_string-packed.new.ends p.new.ends (c.args.self.packed.count + 2) (ends_room (goal.at.join-requires c).Start) (kept (goal.at.join-requires c).After-push_string-packed) p.ensures.chains c.bucket_of.result b,
    )

pub returns : goal.returns
returns c =
    let f = c.push_string-named in
    let p = c.put in
    let j = c.join in
    let w = c.args.name.now in
    λ t k h.
    pushed_in h w (c.push_string-packed.auto.bytes ∙ f.auto.bytes) (c.push_string-packed.auto.ends ∙ f.auto.ends) p.auto.ends (c.args.self.packed.count + 2) (ends_room (goal.at.returns c).Start) (kept (goal.at.returns c).After-push_string-packed)
    j.auto.ends j.ensures.ends_unchanged (new_meaning c.args.new) (record { text_is = sym c.text.ensures; number_is = sym c.number-number.ensures; numbered = k }) (omega (arith, c.requires)) refl
    (c.push_string-packed.ensures.packs (rows t.definitions ++ (w ∷ [])) (f.ensures.packs (rows t.definitions) h.holds.packs)) p.ensures
    (λ ds d e b ch. j.ensures.chained ds d e (c.bucket_of.ensures ∙ b) ch)
