use Rattle.std.proofs.Common.{arith}
use Rattle.std.proofs.lemmas.Result.{err_from_is_err_and}
use Rattle.ir_phrases.specs.Instructions.View.{incoming_view}
use Rattle.name_rules.specs.FunctionDemands.{incoming_demands}
use Rattle.name_rules.specs.Written.{type_in}
use Rattle.ir_phrases.specs.Constants.View.{type_view}
use Rattle.type_judge.specs.Gathered.{known_of}
use Rattle.type_judge.proofs.Parts.{leads_start, leads_next, leads_fails, leads_end}
use Rattle.name_judge.specs.Locals.Names.{locals_of}
use Rattle.name_judge.proofs.locals.operations.check_incomings.Goals as goal

pub incomings-init : goal.incomings-init
incomings-init c = leads_start _

pub incomings-preserved : goal.incomings-preserved
incomings-preserved c = leads_next (incoming_demands (known_of c.args.known.now) (locals_of c.args.locals.now) (type_in (type_view c.args.ty.now))) incoming_view c.args.incomings.now c.incomings.incoming-index c.incoming-item.result _ (omega arith) c.incoming-item.is c.in_ok-check_incoming.ensures c.incomings.invariant

pub returns-in_err-check_incoming : goal.returns-in_err-check_incoming
returns-in_err-check_incoming c =
    let p = err_from_is_err_and c.from_residual.result c.from_residual.ensures.1 in
    rw (p.1, p.2) (leads_fails (incoming_demands (known_of c.args.known.now) (locals_of c.args.locals.now) (type_in (type_view c.args.ty.now))) incoming_view c.args.incomings.now c.incomings.incoming-index c.incoming-item.result _ _ (omega arith) c.incoming-item.is c.in_err-check_incoming.ensures c.incomings.invariant)

pub returns : goal.returns
returns c = leads_end (incoming_demands (known_of c.args.known.now) (locals_of c.args.locals.now) (type_in (type_view c.args.ty.now))) incoming_view c.args.incomings.now c.incomings.incoming-index _ (omega arith) c.incomings.invariant
