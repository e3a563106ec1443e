use Rattle.std.proofs.Common.{List, Bool, flat_map, subst}
use Rattle.extract_rules.specs.KeptNames.Marks.{MarksAll, in_variable, in_function, picked}
use Rattle.extract_rules.proofs.OnKeptNames.Naming.{kept_named, ok_follows}
use Rattle.extract_rules.proofs.kept_names.named.add_names_in_kept.Goals as goal

pub returns : goal.returns
returns c =
    let a = c.args.arena.now in
    ok_follows c.add_marked.result _ _
    (λ each s kept. kept_named a s c.args.kept.now c.args.marks.now c.mark_variables.new.marks c.mark_functions.new.marks c.args.names.now.keys c.add_marked.new.names.keys c.requires.unmarked kept
    (subst (λ (ks : List Bool). MarksAll c.args.marks.now (λ cs. flat_map (in_variable cs) (picked ks a.variables)) c.mark_variables.new.marks) c.as_slice.ensures c.mark_variables.ensures)
    (subst (λ (ks : List Bool). MarksAll c.mark_variables.new.marks (λ cs. flat_map (in_function cs) (picked ks a.functions)) c.mark_functions.new.marks) c.as_slice-2.ensures c.mark_functions.ensures) each)
    c.add_marked.ensures
