use Rattle.std.proofs.Common.{List, map, subst, sym}
use Rattle.run_decode.specs.declared.signatures.written.WrittenSignature.{WrittenSignature}
use Rattle.run_decode.specs.Signatures.Met.{AreMet, type_in}
use Rattle.run_decode.specs.Signatures.Numbers.{Numbers}
use Rattle.run_decode.proofs.OnSignatures.Kept.{met_kept, met_with, number_more, numbers_more, numbers_same}
use Rattle.run_decode.proofs.signatures.signatures.Signatures.add.Goals as goal

pub returns-in_err-parameters-clause-numbers : goal.returns-in_err-parameters-clause-numbers
returns-in_err-parameters-clause-numbers c =
    let s = c.self.inside in
    numbers_same c.args.self.now s.program.now s.parameters s.written c.self.view_is c.self.invariant c.append.new.self c.append.ensures.kept

pub invariant_of-self-in_err-number : goal.invariant_of-self-in_err-number
invariant_of-self-in_err-number c =
    let s = c.self.inside in
    subst (λ (us : List WrittenSignature). AreMet s.program.now c.append.new.self us) (sym c.in_err-number.ensures.err)
    (met_kept s.program.now s.parameters c.append.new.self c.append.ensures.kept s.written c.self.invariant)

pub returns-in_err-number-clause-numbers : goal.returns-in_err-number-clause-numbers
returns-in_err-number-clause-numbers c =
    let s = c.self.inside in
    subst (λ (us : List WrittenSignature). Numbers c.args.self.now (record { lists = s.program.now; types = map (type_in c.append.new.self) us })) (sym c.in_err-number.ensures.err)
    (numbers_same c.args.self.now s.program.now s.parameters s.written c.self.view_is c.self.invariant c.append.new.self c.append.ensures.kept)

pub invariant_of-self-2 : goal.invariant_of-self-2
invariant_of-self-2 c =
    let s = c.self.inside in
    met_with c.args.self.now s.program.now s.parameters s.written c.self.view_is c.self.invariant c.append.new.self c.args.returns c.args.parameters.now c.args.variadic
    c.in_ok-parameters.parameters c.in_ok-parameters.ensures.items c.in_ok-parameters.ensures.span c.push.new.self c.in_ok-number.ensures.items c.requires.returns c.requires.parameters c.requires.new

pub returns-clause-number : goal.returns-clause-number
returns-clause-number c =
    let s = c.self.inside in
    number_more c.args.self.now s.program.now s.parameters s.written c.self.view_is c.self.invariant c.append.new.self c.args.returns c.args.parameters.now c.args.variadic
    c.in_ok-parameters.parameters c.in_ok-parameters.ensures.items c.in_ok-parameters.ensures.span c.push.new.self c.in_ok-number.number c.in_ok-number.ensures.items c.in_ok-number.ensures.place

pub returns-clause-numbers : goal.returns-clause-numbers
returns-clause-numbers c =
    let s = c.self.inside in
    numbers_more c.args.self.now s.program.now s.parameters s.written c.self.view_is c.self.invariant c.append.new.self c.args.returns c.args.parameters.now c.args.variadic
    c.in_ok-parameters.parameters c.in_ok-parameters.ensures.items c.in_ok-parameters.ensures.span c.push.new.self c.in_ok-number.ensures.items
