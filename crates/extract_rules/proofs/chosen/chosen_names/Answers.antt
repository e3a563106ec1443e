use Rattle.std.proofs.Common.{◌≡◌, sym, ap, ◌∙◌, if◌then◌else◌}
use Rattle.module_arena.specs.View.{module_of}
use Rattle.extract_rules.specs.Calls.{with_all_called}
use Rattle.extract_rules.specs.Selected.{is_among, selected}
use Rattle.extract_rules.proofs.Closure.{same_closure}
use Rattle.extract_rules.proofs.chosen.chosen_names.Goals as goal
use Rattle.extract_rules.proofs.chosen.chosen_names.Goals.{then-selection+in_ok-add_all_called, else-selection}

pub returns : goal.returns
returns c name =
    let m = module_of c.args.arena.now in
    let s = c.args.selection.now in
    elim c.if-selection.branch [
      | then-selection+in_ok-add_all_called w ↦
          let new : c.if-selection.names.keys ≡ w.add_all_called.new.names.keys = cc in
          ap (λ ks. is_among ks name) new ∙ w.in_ok-add_all_called.ensures name ∙ same_closure m c.in_ok-names.names.keys (selected m s) c.in_ok-names.ensures name
          ∙ sym (ap (λ b. is_among (if b then with_all_called m (selected m s) else selected m s) name) w.if-selection.true)
      | else-selection w ↦
          let same : c.if-selection.names.keys ≡ c.in_ok-names.names.keys = cc in
          ap (λ ks. is_among ks name) same ∙ c.in_ok-names.ensures name
          ∙ sym (ap (λ b. is_among (if b then with_all_called m (selected m s) else selected m s) name) w.if-selection.false)
    ]
