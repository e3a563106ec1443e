use Rattle.std.proofs.Common.{◌<◌, ℕ, All, List, [], ◌∷◌, length, map, OnOk, sym, subst}
use Rattle.std.proofs.lemmas.List.Elements.{All-tail}
use Rattle.std.proofs.lemmas.Result.{on_ok_weaker}
use Rattle.module_arena.specs.Mentions.{targets_of}
use Rattle.module_arena.specs.declared.instruction.Case.{Case}
use Rattle.module_arena.specs.declared.instruction.Ending.{Ending}
use Rattle.instruction_verify.proofs.OnUses.Edged.{Added, more_edges}
use Rattle.instruction_verify.proofs.OnUses.Mapped.{All-mapped}
use Rattle.instruction_verify.proofs.uses.sources.add_edges.Goals as goal

pub add_cases-requires : goal.add_cases-requires
add_cases-requires c =
    let n = length c.args.sources.now in
    let target = λ (x : Case). x.target in
    let cases = c.in-Switch.cases in
    let all = subst (λ (e : Ending). All (λ (t : ℕ). t < n) (targets_of e)) c.in-Switch.is c.requires in
    let each = All-mapped (λ (t : ℕ). t < n) target cases (All-tail (λ (t : ℕ). t < n) c.in-Switch.otherwise (map target cases) all) in
    subst (λ (cs : List Case). All (λ (x : Case). x.target < length c.add_edge-in-Switch.new.sources) cs) (sym c.as_slice.ensures)
    (subst (λ (k : ℕ). All (λ (x : Case). x.target < k) cases) (sym c.add_edge-in-Switch.ensures.len) each)

pub returns-in_ok-add_edge-in-Branch-clause-edges : goal.returns-in_ok-add_edge-in-Branch-clause-edges
returns-in_ok-add_edge-in-Branch-clause-edges c =
    let from = c.args.from in
    let old = c.args.sources.now in
    subst (λ (e : Ending). OnOk c.add_edge-in-Branch-2.result (Added from (targets_of e) old c.add_edge-in-Branch-2.new.sources)) (sym c.in-Branch.is)
    (on_ok_weaker c.add_edge-in-Branch-2.result
    (λ two. more_edges from (c.in-Branch.then_to ∷ []) (c.in-Branch.else_to ∷ []) old c.add_edge-in-Branch.new.sources c.add_edge-in-Branch-2.new.sources c.add_edge-in-Branch.ensures.len c.in_ok-add_edge-in-Branch.ensures.edges two)
    c.add_edge-in-Branch-2.ensures.edges)

pub returns-in_ok-add_edge-in-Switch-clause-edges : goal.returns-in_ok-add_edge-in-Switch-clause-edges
returns-in_ok-add_edge-in-Switch-clause-edges c =
    let from = c.args.from in
    let old = c.args.sources.now in
    subst (λ (e : Ending). OnOk c.add_cases.result (Added from (targets_of e) old c.add_cases.new.sources)) (sym c.in-Switch.is)
    (on_ok_weaker c.add_cases.result
    (λ two. more_edges from (c.in-Switch.otherwise ∷ []) (map (λ (x : Case). x.target) c.in-Switch.cases) old c.add_edge-in-Switch.new.sources c.add_cases.new.sources c.add_edge-in-Switch.ensures.len c.in_ok-add_edge-in-Switch.ensures.edges
    (subst (λ (cs : List Case). Added from (map (λ (x : Case). x.target) cs) c.add_edge-in-Switch.new.sources c.add_cases.new.sources) c.as_slice.ensures two))
    c.add_cases.ensures.edges)
