-- `expander::packed::Packed::drop_named` meets its contract: the loop keeps where the pass is, for all definitions that the buffer may hold. Assumes nothing.
use Rattle.rules.proofs.Base.{◌≤◌, ◌+◌, ◌*◌, ◌∙◌, refl, ◌≡◌, List, arith, length, get_or}
use Rattle.rules.specs.Table.{Definition, without}
use Rattle.expander.specs.Limits.{links_start, table_ends_length}
use Rattle.expander.specs.Packed.{Packs}
use Rattle.expander.specs.Table.{rows, DefinitionsIn}
use Rattle.expander.specs.declared.packed.Packed.{Packed}
use Rattle.expander.proofs.Sifting.{Sifting, sifting_begins, put_both, sifting_put, Facing, facing, sifting_on, sifting_ends, without_few, without_in}
use Rattle.expander.proofs.Changing.{Told}
use Rattle.expander.proofs.Chains.{candidates_kept}
use Rattle.expander.proofs.Parts.{drop_later}
use Rattle.expander.proofs.packed.Packed.drop_named.Goals as goal
use Rattle.expander.proofs.packed.Packed.drop_named.Goals.{After-put, After-loop-i, In-loop-i}

-- where the pass is, for the definitions that are known to be there
now_at : (c : In-loop-i)
    → Sifting c.args.name.now c.requires.definitions c.args.self.count c.loop-i.bytes c.loop-i.ends c.loop-i.kept c.loop-i.i c.loop-i.from
now_at c = c.loop-i.invariant.1 c.args.self c.requires.definitions refl c.requires.holds

ends_long : (c : In-loop-i) → length c.loop-i.ends ≡ table_ends_length
ends_long c = c.loop-i.auto.ends ∙ c.requires.holds.ends_are

-- the same once the byte of the next one has been put behind those kept, for all definitions
sifts : (c : After-put) (p : Packed) (ds : List Definition) → p.count ≡ c.args.self.count
    → DefinitionsIn c.args.bytes.now c.args.ends.now p ds
    → Sifting c.args.name.now ds c.args.self.count c.loop-i.bytes c.put.new.ends c.loop-i.kept c.loop-i.i c.loop-i.from
sifts c p ds e h = sifting_put (c.loop-i.invariant.1 p ds e h) c.number_at-number.ensures c.put.ensures c.put.auto.ends

put_at : (c : After-put)
    → Sifting c.args.name.now c.requires.definitions c.args.self.count c.loop-i.bytes c.put.new.ends c.loop-i.kept c.loop-i.i c.loop-i.from
put_at c = sifts c c.args.self c.requires.definitions refl c.requires.holds

faced : (c : After-put)
    → Facing c.args.name.now c.requires.definitions c.args.self.count c.loop-i.bytes c.put.new.ends c.loop-i.kept c.loop-i.i c.loop-i.from
    (get_or c.put.new.ends (2 * c.loop-i.i) 0) (get_or c.put.new.ends (2 * c.loop-i.i + 1) 0)
faced c = facing (put_at c) (get_or c.put.new.ends (2 * c.loop-i.i) 0) (get_or c.put.new.ends (2 * c.loop-i.i + 1) 0) (omega arith) refl refl

-- both ends of the definition that the pass comes to are there
room : (c : After-put) → (2 * c.loop-i.i + 2 ≤ length c.put.new.ends) × (length c.put.new.ends ≡ table_ends_length)
room c = (omega (arith, (faced c).left, (put_at c).count_in), c.put.auto.ends ∙ c.loop-i.auto.ends ∙ c.requires.holds.ends_are)

-- what is left, as strings and bytes
left : (c : After-loop-i) (ds : List Definition) → DefinitionsIn c.args.bytes.now c.args.ends.now c.args.self ds
    → Packs c.loop-i.ends c.loop-i.kept.count c.loop-i.bytes c.loop-i.kept.used (rows (without c.args.name.now ds))
    × Told c.loop-i.ends (without c.args.name.now ds)
left c ds h = sifting_ends (c.loop-i.invariant.1 c.args.self ds refl h) (omega arith)

pub put-requires : goal.put-requires
put-requires c =
    (ends_long (goal.at.put-requires c).In-loop-i, omega (arith, (now_at (goal.at.put-requires c).In-loop-i).count_few, (now_at (goal.at.put-requires c).In-loop-i).count_behind))

pub sift-kept-requires : goal.sift-kept-requires
sift-kept-requires c =
    let f = faced (goal.at.sift-kept-requires c).After-put in
    let r = room (goal.at.sift-kept-requires c).After-put in record { used_le_from = ((put_at (goal.at.sift-kept-requires c).After-put).used_behind, f.from_middle, f.middle_end, f.end_in); count_in_bounds = (omega (arith, (put_at (goal.at.sift-kept-requires c).After-put).count_behind), omega (arith, c.requires.holds.bytes_most, c.loop-i.auto.bytes)) }

pub loop-i-preserved : goal.loop-i-preserved
loop-i-preserved c =
    let i = c.loop-i in
    let s = c.sift-kept in (
      drop_later (i.kept.count + 2) links_start s.new.ends c.put.new.ends (omega (arith, (put_at (goal.at.loop-i-preserved c).After-put).count_few, (put_at (goal.at.loop-i-preserved c).After-put).count_behind, (faced (goal.at.loop-i-preserved c).After-put).left)) s.ensures.ends_behind ∙ c.put.ensures.chains ∙ i.invariant.0,
      λ q ds e h.
          sifting_on (facing (sifts (goal.at.loop-i-preserved c).After-put q ds e h) (get_or c.put.new.ends (2 * i.i) 0) (get_or c.put.new.ends (2 * i.i + 1) 0) (omega arith) refl refl) s.ensures
          (put_both _ _ c.number_at-number.ensures c.put.ensures) s.auto.bytes s.auto.ends,
    )

pub rebuild-requires : goal.rebuild-requires
rebuild-requires c =
    let i = c.loop-i in
    let d = c.requires in
    let w = c.args.name.now in
    let e = left (goal.at.rebuild-requires c).After-loop-i d.definitions d.holds in record {
      rows_in = record { definitions = without w d.definitions; packs = e.0 };
      ends_len = (
        i.auto.ends ∙ d.holds.ends_are,
        without_few w d.holds i.auto.bytes {r = i.kept} e.0,
        λ b l. candidates_kept links_start c.args.ends.now i.ends i.invariant.0 (omega arith) b ∙ d.holds.chained.candidates b l,
      );
    }

pub returns : goal.returns
returns c =
    let i = c.loop-i in
    let r = c.rebuild in
    let w = c.args.name.now in
    λ ds h.
    let e = left (goal.at.returns c).After-loop-i ds h in
    without_in w h i.auto.bytes i.auto.ends e.0 e.1 r.auto.ends r.ensures.ends_unchanged (r.ensures.chained (without w ds) e.0)

pub loop-i-init : goal.loop-i-init
loop-i-init c = (refl, λ p ds e h. sifting_begins c.args.name.now e h)

pub number_at-number-requires : goal.number_at-number-requires
number_at-number-requires c = (ends_long (goal.at.number_at-number-requires c).In-loop-i, omega (arith, (now_at (goal.at.number_at-number-requires c).In-loop-i).count_few))
