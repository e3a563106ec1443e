use Rattle.std.proofs.Common.{◌≡◌, [], ◌∷◌, None, ap, ◌∙◌, sym, subst}
use Rattle.linkage_rules.specs.Ids.{modules}
use Rattle.module_arena.specs.Functions.{first_too_large}
use Rattle.module_arena.specs.Module.{Module}
use Rattle.module_arena.specs.Valid.{IsValid}
use Rattle.module_arena.specs.View.{module_of}
use Rattle.module_arena.specs.WellFormed.{IsWellFormed}
use Rattle.module_linker.specs.Stages.Parts.{CanLink}
use Rattle.run_rules.specs.Same.{RunAlike}
use Rattle.module_linker.proofs.Linkable.{still_linkable}
use Rattle.module_linker.proofs.linking.link.Goals as goal

pub linked-requires-clause-can : goal.linked-requires-clause-can
linked-requires-clause-can c = rw c.as_slice.ensures.value at c.in-Ok.ensures.can

pub linked-requires-clause-resolved : goal.linked-requires-clause-resolved
linked-requires-clause-resolved c = rw c.as_slice.ensures.value at c.in-Ok.ensures.symbols

pub linked-requires-clause-names : goal.linked-requires-clause-names
linked-requires-clause-names c = rw c.as_slice.ensures.value at c.in-Ok.ensures.names

pub linked-requires-clause-numbers : goal.linked-requires-clause-numbers
linked-requires-clause-numbers c = rw c.as_slice.ensures.value at c.in-Ok.ensures.numbers

pub seal-requires-clause-well_formed : goal.seal-requires-clause-well_formed
seal-requires-clause-well_formed c =
    let can : CanLink (modules c.args.parts.items) = rw c.as_slice.ensures.value at c.in-Ok.ensures.can in
    subst IsWellFormed (sym c.in_ok-whole.ensures) can.whole

pub seal-requires-clause-valid : goal.seal-requires-clause-valid
seal-requires-clause-valid c =
    let can : CanLink (modules c.args.parts.items) = rw c.as_slice.ensures.value at c.in-Ok.ensures.can in
    subst IsValid (sym c.in_ok-whole.ensures) (c.linking_keeps_modules.ensures.valid (modules c.args.parts.items) (still_linkable (modules c.args.parts.items) can))

pub returns-in-Err-clause-fault : goal.returns-in-Err-clause-fault
returns-in-Err-clause-fault c = rw c.as_slice.ensures.value at c.in-Err.ensures.fault

pub returns-clause-agree : goal.returns-clause-agree
returns-clause-agree c = let can : CanLink (modules c.args.parts.items) = rw c.as_slice.ensures.value at c.in-Ok.ensures.can in can.agree

pub returns-clause-few : goal.returns-clause-few
returns-clause-few c = let can : CanLink (modules c.args.parts.items) = rw c.as_slice.ensures.value at c.in-Ok.ensures.can in can.few

pub returns-clause-module : goal.returns-clause-module
returns-clause-module c = ap module_of c.seal.ensures ∙ c.in_ok-whole.ensures

pub returns-clause-small : goal.returns-clause-small
returns-clause-small c = λ all.
    subst (λ (m : Module). first_too_large m ≡ None) (sym (ap module_of c.seal.ensures ∙ c.in_ok-whole.ensures)) (c.linking_keeps_modules.ensures.small (modules c.args.parts.items) all)

pub returns-clause-runs : goal.returns-clause-runs
returns-clause-runs c =
    let ms = modules c.args.parts.items in
    let can : CanLink ms = rw c.as_slice.ensures.value at c.in-Ok.ensures.can in
    subst (λ (m : Module). RunAlike (m ∷ []) ms) (sym (ap module_of c.seal.ensures ∙ c.in_ok-whole.ensures)) (c.linking_is_right.ensures.runs ms can.good can.valid can.agree)
