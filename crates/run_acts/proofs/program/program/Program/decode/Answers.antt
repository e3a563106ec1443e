use Rattle.std.proofs.Common.{◌≡◌, ℕ, ◌<◌, Option, Some, None, length, set, refl, sym, subst, arith}
use Rattle.std.specs.Prelude.{slice_get}
use Rattle.run_decode.specs.Body.Bodies.{Decoded}
use Rattle.run_acts.specs.Program.Loaded.{IsBodyOf, IsReady}
use Rattle.run_acts.proofs.OnProgram.Growing.{loaded_grown}
use Rattle.run_acts.proofs.OnProgram.Made.{body_absent, body_place, keeps_prepared, loaded_prepared, none_ready, set_there}
use Rattle.run_acts.proofs.program.program.Program.decode.Goals as goal

absent_by : (o : Option Decoded) → ((b : Decoded) → o ≡ Some b → ⊥) → o ≡ None
absent_by None h = refl
absent_by (Some b) h = absurd (h b refl)

pub invariant_of-self : goal.invariant_of-self
invariant_of-self c =
    let s = c.self.inside in
    loaded_grown s.names s.signatures c.body_of.new.signatures c.body_of.ensures.numbers s.heads.items s.bodies.items c.self.invariant

pub index_mut-requires : goal.index_mut-requires
index_mut-requires c =
    let s = c.self.inside in
    let lt = body_place c.args.self.now s.names s.signatures s.heads.items s.bodies.items c.self.view_is c.self.invariant c.args.id c.requires.code in
    omega (arith, lt, c.number-place.ensures)

pub invariant_of-self-2 : goal.invariant_of-self-2
invariant_of-self-2 c =
    let s = c.self.inside in
    let new = c.body_of.new.signatures in
    loaded_prepared c.args.self.now s.names s.signatures s.heads.items s.bodies.items c.self.view_is c.self.invariant new c.body_of.ensures.numbers c.number-place.result c.in_ok-body.body
    (subst (λ (n : ℕ). IsBodyOf s.names new n c.in_ok-body.body) (sym c.number-place.ensures) c.in_ok-body.ensures.body)

pub returns-clause-ready : goal.returns-clause-ready
returns-clause-ready c =
    let s = c.self.inside in
    let lt = body_place c.args.self.now s.names s.signatures s.heads.items s.bodies.items c.self.view_is c.self.invariant c.args.id c.requires.code in
    let here : c.number-place.result < length s.bodies.items = omega (arith, lt, c.number-place.ensures) in (
      c.in_ok-body.body,
      (
        subst (λ (n : ℕ). slice_get (set s.bodies.items c.number-place.result (Some c.in_ok-body.body)) n ≡ Some (Some c.in_ok-body.body)) c.number-place.ensures
            (set_there s.bodies.items c.number-place.result (Some c.in_ok-body.body) here),
        sym c.widest-widest.ensures.widest,
      ),
    )

pub returns-clause-keeps : goal.returns-clause-keeps
returns-clause-keeps c =
    let s = c.self.inside in
    let lt = body_place c.args.self.now s.names s.signatures s.heads.items s.bodies.items c.self.view_is c.self.invariant c.args.id c.requires.code in
    let here : c.number-place.result < length s.bodies.items = omega (arith, lt, c.number-place.ensures) in
    keeps_prepared c.args.self.now s.names s.signatures s.heads.items s.bodies.items c.self.view_is c.self.invariant c.body_of.new.signatures c.body_of.ensures.numbers c.number-place.result c.in_ok-body.body
    (body_absent c.args.self.now s.names s.signatures s.heads.items s.bodies.items c.self.view_is c.self.invariant c.number-place.result c.index.result.now here c.index.ensures
    (absent_by c.index.result.now (λ b is. c.in_default.not-Some b is)))

pub returns-in_err-body-clause-again : goal.returns-in_err-body-clause-again
returns-in_err-body-clause-again c = λ b ready.
    let s = c.self.inside in
    let lt = body_place c.args.self.now s.names s.signatures s.heads.items s.bodies.items c.self.view_is c.self.invariant c.args.id c.requires.code in
    let here : c.number-place.result < length s.bodies.items = omega (arith, lt, c.number-place.ensures) in
    let none = body_absent c.args.self.now s.names s.signatures s.heads.items s.bodies.items c.self.view_is c.self.invariant c.number-place.result c.index.result.now here c.index.ensures
    (absent_by c.index.result.now (λ b is. c.in_default.not-Some b is)) in
    absurd
    (none_ready c.args.self.now s.names s.signatures s.heads.items s.bodies.items c.self.view_is c.self.invariant c.number-place.result none b
    (subst (λ (n : ℕ). IsReady c.args.self.now n b) (sym c.number-place.ensures) ready))
