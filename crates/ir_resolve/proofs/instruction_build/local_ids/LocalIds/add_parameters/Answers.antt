use Rattle.std.proofs.Common.{◌≡◌, ◌+◌, ◌++◌, ◌∷◌, [], Some, map, take, rules, sym, ap, ◌∙◌, arith}
use Rattle.std.proofs.lemmas.List.{map_more, append_assoc}
use Rattle.ir_syntax.specs.View.{parameter_view}
use Rattle.module_arena.specs.Module as m
use Rattle.module_arena.specs.View.{local_view}
use Rattle.name_rules.specs.ModuleOf.{parameters_in}
use Rattle.name_rules.specs.Locals.{called, next_behind, next_after, announced_parameter}
use Rattle.ir_resolve.proofs.OnInstructionBuild.Gathered.{parameters_more, behind_parameter, behind_one_le, names_le}
use Rattle.ir_resolve.proofs.instruction_build.local_ids.LocalIds.add_parameters.Goals as goal

pub loop-parameter-preserved : goal.loop-parameter-preserved
loop-parameter-preserved c =
    let xs = c.args.written.now in
    let i = c.loop-parameter.parameter-index in
    let x = c.parameter-item.result in
    let done = map parameter_view (take i xs) in
    let tree = parameter_view x in
    let step : map parameter_view (take (i + 1) xs) ≡ done ++ tree ∷ [] = map_more parameter_view xs i x c.loop-parameter-test.true ∙ ap (λ y. done ++ parameter_view y ∷ []) (sym c.parameter-item.is) in
    let so_far = c.loop-parameter.invariant in
    let added : map local_view c.add.new.self.names.items ≡ map local_view c.loop-parameter.self.names.items ++ called c.loop-parameter.next x.name ∷ [] = search rules in
    let next = c.number_behind-next.ensures in
    let names = λ (ps : _). map (λ (p : m.Parameter). p.name) (parameters_in 0 ps) in
    let old = map local_view c.args.self.now.names.items in
    let le = behind_one_le c.loop-parameter.next x.name in
    let numbers = so_far.numbers in
    let more = names_le c.loop-parameter.self.names.items c.add.new.self.names.items (Some (called c.loop-parameter.next x.name)) added in
    let few = so_far.few in
    record {
      next = next ∙ ap (λ n. next_behind n x.name) so_far.next ∙ sym (ap (λ ts. next_after 0 (map announced_parameter ts)) step ∙ behind_parameter 0 done tree);
      names = added
          ∙ (λ j. so_far.names j ++ called (so_far.next j) x.name ∷ [])
          ∙ append_assoc old (names done) (called (next_after 0 (map announced_parameter done)) x.name ∷ [])
          ∙ ap (λ rest. old ++ rest) (sym (ap names step ∙ parameters_more 0 done tree));
      numbers = omega (arith, le, next, numbers);
      few = omega (arith, more, few);
    }
