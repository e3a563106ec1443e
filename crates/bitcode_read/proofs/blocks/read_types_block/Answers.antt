use Rattle.std.proofs.Common.{refl, sym, subst}
use Rattle.std.proofs.lemmas.Result.{err_from_is_err_and}
use Rattle.module_arena.specs.Lists.{Lists}
use Rattle.record_table.specs.TypeRecords.{names_in}
use Rattle.record_read.specs.Fields.{texts_of}
use Rattle.type_read.specs.Listed.{AreGathered}
use Rattle.record_read.proofs.OnOpening.Answering.{out_of_memory}
use Rattle.bitcode_read.proofs.Types.{early}
use Rattle.bitcode_read.proofs.TypesAnswers.{names_of_gathered, types_answers, types_refused}
use Rattle.bitcode_read.proofs.blocks.read_types_block.Goals as goal

pub read_types-requires-clause-begun : goal.read_types-requires-clause-begun
read_types-requires-clause-begun c =
    let w = c.requires.begun in
    let x = texts_of c.args.texts.now in
    let gathered = subst (λ (a : Lists). AreGathered a c.args.known.now.structs (names_in x w.inside)) (sym c.replace-gathered.ensures.value) w.gathered in
    record {
      inside = w.inside;
      others = w.others;
      before = w.before;
      names_are = names_of_gathered x w.inside c.args.known.now.named c.args.known.now.structs w.gathered;
      named = c.in_ok-arena.ensures (names_in x w.inside) gathered;
    }

pub returns-clause-room : goal.returns-clause-room
returns-clause-room c = record { variables = c.requires.room.variables; functions = c.requires.room.functions; aliases = c.requires.room.aliases; numbers = c.requires.room.numbers }

pub returns-in_err-arena-clause-reads : goal.returns-in_err-arena-clause-reads
returns-in_err-arena-clause-reads c = λ tree stream may s inside behind others h before at.
    let p = err_from_is_err_and c.from_residual.result c.from_residual.ensures.1 in
    rw p.1 (out_of_memory _ _ p.0 p.2)

pub returns-in_err-read_types-clause-reads : goal.returns-in_err-read_types-clause-reads
returns-in_err-read_types-clause-reads c = λ tree stream may s inside behind others h before at.
    let p = err_from_is_err_and c.from_residual-in_err-read_types.result c.from_residual-in_err-read_types.ensures.1 in
    let x = texts_of c.args.texts.now in
    let e = early x _ c.args.known.now c.args.known.now c.args.m.now c.args.sofar.now s inside behind h may in
    let gathered = subst (λ (a : Lists). AreGathered a c.args.known.now.structs (names_in x inside)) (sym c.replace-gathered.ensures.value) e.gathered in
    rw (p.1, p.2)
    (types_refused c.args.texts.now c.requires.held _ c.args.known.now c.args.known.now c.args.m.now c.args.sofar.now s inside behind others h may at _ _ _
    (c.in_err-read_types.ensures.answers inside others before (names_of_gathered x inside c.args.known.now.named c.args.known.now.structs e.gathered) (c.in_ok-arena.ensures (names_in x inside) gathered)))

pub returns-in_err-sofar-clause-reads : goal.returns-in_err-sofar-clause-reads
returns-in_err-sofar-clause-reads c = λ tree stream may s inside behind others h before at.
    let p = err_from_is_err_and c.from_residual-in_err-sofar.result c.from_residual-in_err-sofar.ensures.1 in
    rw p.1 (out_of_memory _ _ p.0 p.2)

pub returns-in_err-m-clause-reads : goal.returns-in_err-m-clause-reads
returns-in_err-m-clause-reads c = λ tree stream may s inside behind others h before at.
    let p = err_from_is_err_and c.from_residual-in_err-m.result c.from_residual-in_err-m.ensures.1 in
    rw p.1 (out_of_memory _ _ p.0 p.2)

pub returns-clause-reads : goal.returns-clause-reads
returns-clause-reads c = λ tree stream may s inside behind others h before at.
    let x = texts_of c.args.texts.now in
    let e = early x _ c.args.known.now c.args.known.now c.args.m.now c.args.sofar.now s inside behind h may in
    let gathered = subst (λ (a : Lists). AreGathered a c.args.known.now.structs (names_in x inside)) (sym c.replace-gathered.ensures.value) e.gathered in
    let names = names_of_gathered x inside c.args.known.now.named c.args.known.now.structs e.gathered in
    types_answers c.args.texts.now c.requires.held _ c.args.known.now _ c.args.m.now c.args.sofar.now s inside behind others h may at c.args.known.now.structs names c.read_types.new.arena c.declare_entries.new.arena c.read_types.new.reader _ _ _
    (c.in_ok-read_types.ensures.answers inside others before names (c.in_ok-arena.ensures (names_in x inside) gathered)) c.in_ok-read_types.ensures.unspent (c.in_ok-sofar.ensures.declares tree stream) (λ k. c.in_ok-sofar.ensures.foresees tree k stream)
    c.arena_facts.ensures.good c.arena_facts.ensures.types c.arena_facts.ensures.distinct c.in_ok-m.ensures.is refl (sym c.place-sofar.ensures) refl
