use Rattle.std.proofs.Common.{ℕ, ◌<◌, ◌&&◌, All, List, Bool, length, sym, ap, ◌∙◌, subst, arith}
use Rattle.module_arena.specs.Lists.{function_blocks}
use Rattle.module_arena.specs.Mentions.{bare_values_of, blocks_of}
use Rattle.module_arena.specs.declared.instruction.Incoming.{Incoming}
use Rattle.module_arena.specs.declared.instruction.Inst.{Inst}
use Rattle.instruction_verify.specs.Uses.Classes.{HasClass}
use Rattle.instruction_verify.specs.Uses.Edges.{entries_suit_by, sources_from, suits_by}
use Rattle.instruction_verify.proofs.OnUses.Mapped.{All-mapped}
use Rattle.instruction_verify.proofs.OnUses.PhisTold.{sources_known}
use Rattle.instruction_verify.proofs.uses.phis.PhiJudge.phi_suits.Goals as goal

pub entries_suit-requires-clause-sources : goal.entries_suit-requires-clause-sources
entries_suit-requires-clause-sources c =
    let ready = c.in_ok-make_ready-in-Phi.ensures.ready in
    let n = length c.make_ready.new.self in
    subst (λ (xs : List ℕ). All (λ b. b < n) xs) (sym (ready.1 c.args.block c.requires.block))
    (sources_known (function_blocks c.args.function.now) 0 c.args.block n (omega (arith, ready.0)))

pub entries_suit-requires-clause-blocks : goal.entries_suit-requires-clause-blocks
entries_suit-requires-clause-blocks c =
    let n = length (function_blocks c.args.function.now) in
    subst (λ (m : ℕ). All (λ (i : Incoming). i.block < m) c.as_slice.result.now) (sym c.in_ok-make_ready-in-Phi.ensures.ready.0)
    (subst (λ (is : List Incoming). All (λ i. i.block < n) is) (sym c.as_slice.ensures)
    (All-mapped (λ (id : ℕ). id < n) (λ (i : Incoming). i.block) c.in-Phi.incoming (subst (λ (i : Inst). All (λ id. id < n) (blocks_of i)) c.in-Phi.is c.requires.blocks)))

pub entries_suit-requires-clause-known : goal.entries_suit-requires-clause-known
entries_suit-requires-clause-known c =
    let n = length c.args.classes.now in
    subst (λ (is : List Incoming). All (λ i. HasClass n i.value) is) (sym c.as_slice.ensures)
    (All-mapped (HasClass n) (λ (i : Incoming). i.value) c.in-Phi.incoming (subst (λ (i : Inst). All (HasClass n) (bare_values_of i)) c.in-Phi.is c.requires.known))

pub returns-in_ok-suits-in-Phi-clause-suits : goal.returns-in_ok-suits-in-Phi-clause-suits
returns-in_ok-suits-in-Phi-clause-suits c =
    let classes = c.args.classes.now in
    let sources = sources_from 0 (function_blocks c.args.function.now) c.args.block in
    let told = c.in_ok-make_ready-in-Phi.ensures.ready.1 c.args.block c.requires.block in
    ap (λ (b : Bool). c.args.behind_phis && b) (c.in_ok-suits-in-Phi.ensures.suits ∙ (λ j. entries_suit_by classes (told j) (c.as_slice.ensures j)))
    ∙ ap (suits_by classes sources c.args.behind_phis) (sym c.in-Phi.is)
