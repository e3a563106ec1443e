use Rattle.std.proofs.Common.{length, ap, ◌∙◌}
use Rattle.std.proofs.lemmas.List.{length-map}
use Rattle.module_arena.specs.View.{module_of}
use Rattle.extract_rules.specs.Selected.{keeps_variable, keeps_function}
use Rattle.extract_rules.proofs.Keeping.{variables_length, functions_length}
use Rattle.extract_core.proofs.extracting.kept_part.Goals as goal

-- a flag for each entry that may have an initialiser or a body
pub named_by_kept-requires : goal.named_by_kept-requires
named_by_kept-requires c =
    let a = c.args.from.now in
    let s = c.args.selection.now in
    let kept = c.requires.kept in
    record {
      variables = ap length kept.variables ∙ length-map (module_of a).variables (keeps_variable (module_of a) s) ∙ variables_length a;
      functions = ap length kept.functions ∙ length-map (module_of a).functions (keeps_function (module_of a) s) ∙ functions_length a;
    }

pub all_fates-requires : goal.all_fates-requires
all_fates-requires c =
    let s = c.args.selection.now in
    (module_of c.args.from.now, s, c.requires.kept, c.in_ok-named.ensures s c.requires.kept)

pub part_by-requires-clause-fates : goal.part_by-requires-clause-fates
part_by-requires-clause-fates c =
    let s = c.args.selection.now in
    (s, c.in_ok-fates.ensures (module_of c.args.from.now) s c.requires.kept (c.in_ok-named.ensures s c.requires.kept))

pub returns : goal.returns
returns c =
    let s = c.args.selection.now in
    c.part_by.ensures s (c.in_ok-fates.ensures (module_of c.args.from.now) s c.requires.kept (c.in_ok-named.ensures s c.requires.kept))
