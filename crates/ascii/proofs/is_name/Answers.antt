-- `ascii::is_name` meets its contract: what begins a name goes on with it, so the name is as long as the whole. Assumes nothing.
use Rattle.rules.proofs.Base.{◌∙◌, sym, not, ap, true≢false, eqb-true}
use Rattle.ascii.proofs.Laws.{no_bytes, name_whole, no_name}
use Rattle.ascii.proofs.is_name.Goals.{then-not-is_empty, else-not-is_empty}
use Rattle.ascii.proofs.is_name.Goals as goal

pub returns-then-begins_name : goal.returns-then-begins_name
returns-then-begins_name c =
    let s = c.args.s.now in
    elim c.if-not-is_empty.branch [
      | then-not-is_empty w ↦ rw c.name_length.ensures (sym (name_whole s (sym w.begins_name.ensures ∙ sym w.value-is ∙ c.if-begins_name.true)))
      | else-not-is_empty w ↦ absurd (true≢false (sym c.if-begins_name.true ∙ w.value-is ∙ ap not w.if-not-is_empty.false))
    ]

pub returns-else-begins_name : goal.returns-else-begins_name
returns-else-begins_name c =
    let s = c.args.s.now in
    elim c.if-not-is_empty.branch [
      | then-not-is_empty w ↦ c.if-begins_name.false ∙ sym (no_name s (sym w.begins_name.ensures ∙ sym w.value-is ∙ c.if-begins_name.false))
      | else-not-is_empty w ↦ c.if-begins_name.false ∙ sym (no_bytes s (eqb-true _ _ (sym c.is_empty.ensures ∙ w.if-not-is_empty.false)))
    ]
