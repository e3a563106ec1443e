use Rattle.std.proofs.Common.{◌≡◌, ◌+◌, ◌++◌, ◌∷◌, [], map, take, sym, ap, ◌∙◌, arith}
use Rattle.std.specs.Prelude.{flat_map, filter_map, option_to_list}
use Rattle.std.proofs.lemmas.List.{map_more, append_assoc}
use Rattle.ir_phrases.specs.Instructions.View.{instruction_view}
use Rattle.module_arena.specs.Module as m
use Rattle.module_arena.specs.View.{local_view}
use Rattle.name_rules.specs.Bodies.{instruction_in, instructions_in}
use Rattle.name_rules.specs.Locals.{next_after, announced_result}
use Rattle.ir_resolve.proofs.OnInstructionBuild.Gathered.{behind_more, results_more, behind_le, names_le}
use Rattle.ir_resolve.proofs.instruction_build.local_ids.LocalIds.add_results.Goals as goal

pub loop-instruction-preserved : goal.loop-instruction-preserved
loop-instruction-preserved c =
    let xs = c.args.written.now in
    let i = c.loop-instruction.instruction-index in
    let x = c.instruction-item.result in
    let done = map instruction_view (take i xs) in
    let tree = instruction_view x in
    let step : map instruction_view (take (i + 1) xs) ≡ done ++ tree ∷ [] = map_more instruction_view xs i x c.loop-instruction-test.true ∙ ap (λ y. done ++ instruction_view y ∷ []) (sym c.instruction-item.is) in
    let so_far = c.loop-instruction.invariant in
    let one = c.in_ok-next.ensures in
    let result_of = λ (r : m.Instruction). r.result in
    let old = map local_view c.args.self.now.names.items in
    let results = filter_map result_of (instructions_in c.args.first done) in
    let le = behind_le c.loop-instruction.next tree in
    let next = one.next in
    let numbers = so_far.numbers in
    let more = names_le c.loop-instruction.self.names.items c.add_result.new.self.names.items (instruction_in c.loop-instruction.next tree).result one.names in
    let few = so_far.few in
    record {
      next = next ∙ ap (λ n. next_after n (announced_result tree)) so_far.next ∙ sym (ap (λ ts. next_after c.args.first (flat_map announced_result ts)) step ∙ behind_more c.args.first done tree);
      names = one.names
          ∙ (λ j. so_far.names j ++ option_to_list (instruction_in (so_far.next j) tree).result)
          ∙ append_assoc old results (option_to_list (instruction_in (next_after c.args.first (flat_map announced_result done)) tree).result)
          ∙ ap (λ rest. old ++ rest) (sym (ap (λ ts. filter_map result_of (instructions_in c.args.first ts)) step ∙ results_more c.args.first done tree));
      numbers = omega (arith, le, next, numbers);
      few = omega (arith, more, few);
    }
