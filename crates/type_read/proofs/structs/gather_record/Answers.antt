use Rattle.std.proofs.Common.{sym, subst}
use Rattle.std.proofs.lemmas.List.{append-nil}
use Rattle.record_table.specs.Layout.{judged}
use Rattle.record_table.specs.TypeRecords.{definition}
use Rattle.record_read.specs.Fields.{texts_of}
use Rattle.type_read.specs.Fields.{IsNameOf}
use Rattle.type_read.proofs.Apart.{name_apart}
use Rattle.type_read.proofs.structs.gather_record.Goals as goal

-- the name of a struct, whose text does not depend on how many types are known
pub returns-in_ok-ahead-clause-gathers : goal.returns-in_ok-ahead-clause-gathers
returns-in_ok-ahead-clause-gathers c = λ operands walk.
    let t = texts_of c.args.texts.now in
    let made = c.in_ok-definition.definition in
    let at_most : IsNameOf made.name (judged (definition t 18446744073709551615) operands).0.1 =
    subst (λ w. IsNameOf made.name ((definition t 18446744073709551615).read w).0.1) walk c.in_ok-definition.ensures.definition.name in
    let name : IsNameOf made.name (judged (definition t 0) operands).0.1 = subst (IsNameOf made.name) (name_apart c.args.texts.now 18446744073709551615 0 operands) at_most in
    rw c.if-code-eq-DEFINE.true ((λ all h. c.in_ok-ahead.ensures all (judged (definition t 0) operands).0.1 name h), sym (append-nil c.args.ahead.now.voids.items))
