use Rattle.std.proofs.Common.{ℕ, sym, subst, arith}
use Rattle.run_acts.specs.Program.Loaded.{IsHead}
use Rattle.run_acts.proofs.OnProgram.Growing.{loaded_grown}
use Rattle.run_acts.proofs.OnProgram.Made.{head_place, loaded_with}
use Rattle.run_acts.proofs.program.program.Program.find_head.Goals as goal

pub invariant_of-self : goal.invariant_of-self
invariant_of-self c =
    let s = c.self.inside in
    loaded_grown s.names s.signatures c.head_of.new.signatures c.head_of.ensures.numbers s.heads.items s.bodies.items c.self.invariant

pub index_mut-requires : goal.index_mut-requires
index_mut-requires c =
    let s = c.self.inside in
    let lt = head_place c.args.self.now s.names s.signatures s.heads.items s.bodies.items c.self.view_is c.self.invariant c.args.id c.requires in
    omega (arith, lt, c.number-place.ensures)

pub invariant_of-self-2 : goal.invariant_of-self-2
invariant_of-self-2 c =
    let s = c.self.inside in
    let new = c.head_of.new.signatures in
    loaded_with c.args.self.now s.names s.signatures s.heads.items s.bodies.items c.self.view_is c.self.invariant new c.head_of.ensures.numbers c.number-place.result c.in_ok-head.head
    (subst (λ (n : ℕ). IsHead s.names new n c.in_ok-head.head) (sym c.number-place.ensures) c.in_ok-head.ensures.head)
