use Rattle.std.proofs.Common.{◌≡◌, List, map, sym, ap, subst, arith, true, Some}
use Rattle.module_arena.specs.declared.instruction.Incoming.{Incoming}
use Rattle.module_arena.specs.declared.instruction.Inst.{Inst}
use Rattle.type_table.specs.Types.{tree}
use Rattle.run_rules.specs.Resolve.{incoming_from, is_phi, moves_to, phi_moves}
use Rattle.run_decode.specs.Scopes.Scopes.{incoming_of, instruction_of, label_of, scope_in, to_of}
use Rattle.run_decode.specs.Scopes.Ways.{GainsMoves, HasPhi, PhiSuits}
use Rattle.run_decode.proofs.OnScopes.Wayed.{gets_more, led_more}
use Rattle.run_decode.proofs.scopes.ways.push_phis.Goals as goal

pub push_phi-requires-clause-phi : goal.push_phi-requires-clause-phi
push_phi-requires-clause-phi c =
    let s = c.args.scope.now in
    let here = subst (PhiSuits s) (sym c.instruction-item.is) (c.requires.phis c.phis.instruction-index c.instruction-item.result c.phis-test.true) in
    subst (HasPhi s c.in-Phi.phi c.in-Phi.ty) (sym c.as_slice.ensures) (subst (PhiSuits s) c.in-Phi.is here)

pub phis-preserved : goal.phis-preserved
phis-preserved c =
    let s = c.args.scope.now in
    let a = s.lists in
    let f = s.function in
    let x = c.instruction-item.result in
    let is : is_phi (instruction_of a f x).operation ≡ true = ap (λ (i : Inst). is_phi (instruction_of a f i).operation) c.in-Phi.is in
    let now = c.phis.into.items in
    let new = c.push_phi.new.into.items in
    let got = subst (λ (l : List Incoming). GainsMoves now new (moves_to (to_of s (Some c.in-Phi.phi)) (incoming_from (scope_in a f) (label_of a f c.args.from) (tree a.table c.in-Phi.ty) (map (incoming_of a f) l)))) c.as_slice.ensures c.in_ok-push_phi.ensures in
    let step = subst (λ (i : Inst). GainsMoves now new (phi_moves (scope_in a f) (label_of a f c.args.from) (instruction_of a f i).result (instruction_of a f i).operation)) (sym c.in-Phi.is) got in
    record {
      count = let next = c.in_ok-count.ensures in let before = c.phis.invariant.count in omega (arith, next, before);
      leading = led_more s c.args.instructions.now c.phis.instruction-index x x c.phis-test.true c.instruction-item.is is c.phis.invariant.leading;
      gained = gets_more s c.args.from c.args.instructions.now c.phis.instruction-index x x c.args.into.now.items now new c.phis-test.true c.instruction-item.is c.phis.invariant.gained step;
    }
