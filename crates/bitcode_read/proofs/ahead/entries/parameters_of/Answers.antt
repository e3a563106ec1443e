use Rattle.std.proofs.Common.{◌++◌, sym, ap, ◌∙◌, arith}
use Rattle.std.proofs.lemmas.Option.{slice_get_within}
use Rattle.bitcode_read.specs.Ahead.Entries.{parameters_called}
use Rattle.bitcode_read.proofs.OnAhead.Called.{called_all, called_more}
use Rattle.bitcode_read.proofs.ahead.entries.parameters_of.Goals as goal

pub places-init : goal.places-init
places-init c = ap (λ l. l ++ parameters_called c.args.names.now 0 c.args.types.now) c.new-parameters.ensures.items

pub places-preserved : goal.places-preserved
places-preserved c =
    called_more c.args.names.now c.args.types.now c.places.parameters.items _ c.places.place _ c.in-Some.ty c.in_ok-name-in-Some.name c.places.invariant (sym c.in-Some.ensures) c.in_ok-name-in-Some.ensures c.in_ok-push-in-Some.ensures.items c.in_ok-place-in-Some.ensures

pub places-smaller : goal.places-smaller
places-smaller c =
    let lt = slice_get_within c.args.types.now c.places.place c.in-Some.ty (sym c.in-Some.ensures) in
    omega (arith, lt, c.in_ok-place-in-Some.ensures)

pub returns-in-None : goal.returns-in-None
returns-in-None c = c.from_vec.ensures ∙ called_all c.args.names.now c.args.types.now c.places.parameters.items c.places.place c.places.invariant (sym c.in-None.ensures)
