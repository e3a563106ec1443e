use Rattle.std.proofs.Common.{sym, subst, refl}
use Rattle.record_read.specs.Fields.{texts_of}
use Rattle.bitcode_read.specs.Sofar.{ReadsPart}
use Rattle.bitcode_read.proofs.UnknownCodes.{unknown_code}
use Rattle.bitcode_read.proofs.records.read_record.Goals as goal

pub returns-then-code-eq-VERSION-clause-reads : goal.returns-then-code-eq-VERSION-clause-reads
returns-then-code-eq-VERSION-clause-reads c = subst (λ code. ReadsPart (texts_of c.args.texts.now) c.args.m.now c.args.sofar.now code c.read_version_part.result c.read_version_part.new.m c.read_version_part.new.sofar) (sym c.if-code-eq-VERSION.true) c.read_version_part.ensures.reads

pub returns-then-code-eq-SOURCE-clause-reads : goal.returns-then-code-eq-SOURCE-clause-reads
returns-then-code-eq-SOURCE-clause-reads c = subst (λ code. ReadsPart (texts_of c.args.texts.now) c.args.m.now c.args.sofar.now code c.read_source.result c.read_source.new.m c.read_source.new.sofar) (sym c.if-code-eq-SOURCE.true) c.read_source.ensures.reads

pub returns-then-code-eq-LAYOUT-clause-reads : goal.returns-then-code-eq-LAYOUT-clause-reads
returns-then-code-eq-LAYOUT-clause-reads c = subst (λ code. ReadsPart (texts_of c.args.texts.now) c.args.m.now c.args.sofar.now code c.read_layout.result c.read_layout.new.m c.read_layout.new.sofar) (sym c.if-code-eq-LAYOUT.true) c.read_layout.ensures.reads

pub returns-then-code-eq-TRIPLE-clause-reads : goal.returns-then-code-eq-TRIPLE-clause-reads
returns-then-code-eq-TRIPLE-clause-reads c = subst (λ code. ReadsPart (texts_of c.args.texts.now) c.args.m.now c.args.sofar.now code c.read_triple.result c.read_triple.new.m c.read_triple.new.sofar) (sym c.if-code-eq-TRIPLE.true) c.read_triple.ensures.reads

pub returns-then-code-eq-VARIABLE-clause-reads : goal.returns-then-code-eq-VARIABLE-clause-reads
returns-then-code-eq-VARIABLE-clause-reads c =
    subst (λ code. ReadsPart (texts_of c.args.texts.now) c.args.m.now c.args.sofar.now code c.read_variable_part.result c.read_variable_part.new.m c.read_variable_part.new.sofar) (sym c.if-code-eq-VARIABLE.true) c.read_variable_part.ensures.reads

pub returns-then-code-eq-FUNCTION-clause-reads : goal.returns-then-code-eq-FUNCTION-clause-reads
returns-then-code-eq-FUNCTION-clause-reads c =
    subst (λ code. ReadsPart (texts_of c.args.texts.now) c.args.m.now c.args.sofar.now code c.read_function_part.result c.read_function_part.new.m c.read_function_part.new.sofar) (sym c.if-code-eq-FUNCTION.true) c.read_function_part.ensures.reads

pub returns-then-code-eq-ALIAS-clause-reads : goal.returns-then-code-eq-ALIAS-clause-reads
returns-then-code-eq-ALIAS-clause-reads c = subst (λ code. ReadsPart (texts_of c.args.texts.now) c.args.m.now c.args.sofar.now code c.read_alias_part.result c.read_alias_part.new.m c.read_alias_part.new.sofar) (sym c.if-code-eq-ALIAS.true) c.read_alias_part.ensures.reads

pub returns-clause-reads : goal.returns-clause-reads
returns-clause-reads c = λ all known s operands behind h walk at.
    rw (unknown_code s c.args.code operands c.if-code-eq-VERSION.false c.if-code-eq-SOURCE.false c.if-code-eq-LAYOUT.false c.if-code-eq-TRIPLE.false c.if-code-eq-VARIABLE.false c.if-code-eq-FUNCTION.false c.if-code-eq-ALIAS.false) refl
