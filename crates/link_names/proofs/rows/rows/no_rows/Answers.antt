use Rattle.std.proofs.Common.{ap, ◌∙◌}
use Rattle.linkage_rules.specs.Ids.{modules}
use Rattle.link_names.specs.Naming.{TakenNames}
use Rattle.link_names.proofs.Given.{same_behind_none}
use Rattle.link_names.specs.Rows.Numbers.{all_struct_names}
use Rattle.link_names.proofs.OnRows.Ending.{rows_none}
use Rattle.link_names.proofs.rows.rows.no_rows.Goals as goal

pub returns : goal.returns
returns c =
    let ms = modules c.args.parts.now in
    let first = c.new-naming.result in
    let naming = c.avoid_all.new.naming in
    rows_none ms c.new.result naming c.new.ensures.found c.new.ensures.names c.new.ensures.naming
    (c.avoid_all.ensures.given ∙ ap (λ (v : TakenNames). v.given) c.new-naming.ensures)
    (same_behind_none first.avoided (all_struct_names ms) naming.avoided (ap (λ (v : TakenNames). v.avoided) c.new-naming.ensures) c.in_ok-avoid_all.ensures.avoided)
