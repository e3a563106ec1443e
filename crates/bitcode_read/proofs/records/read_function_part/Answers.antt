use Rattle.std.proofs.Common.{◌≡◌, ◌+◌, refl, sym, ap, ◌∙◌, arith, length, ◌∷◌, []}
use Rattle.std.proofs.lemmas.List.{length-append}
use Rattle.std.proofs.lemmas.Result.{err_from_is_err_and}
use Rattle.record_table.specs.Faults.{a_record}
use Rattle.record_table.specs.Layout.{judged}
use Rattle.record_table.specs.Records as records
use Rattle.record_read.proofs.OnOpening.Answering.{out_of_memory}
use Rattle.bitcode_read.specs.Entry.Entries.{ReadsFunction}
use Rattle.bitcode_read.proofs.Earlies.{answers_on}
use Rattle.bitcode_read.proofs.Entries.{in_front, function_new, function_sofar, functions_count}
use Rattle.bitcode_read.proofs.Numbers.{numbers_more}
use Rattle.bitcode_read.proofs.Opened.{refused_so}
use Rattle.bitcode_read.specs.Sofar.{numbers_from, with_number}
use Rattle.bitcode_read.proofs.records.read_function_part.Goals as goal

pub count_of-number-requires : goal.count_of-number-requires
count_of-number-requires c = c.requires.room.functions

pub read_function-requires : goal.read_function-requires
read_function-requires c = c.requires.given

pub returns-clause-room : goal.returns-clause-room
returns-clause-room c =
    let few = c.in_ok-is_defined.ensures.few in
    let items = ap (λ xs. length xs) c.in_ok-push.ensures.items in
    let more = length-append c.args.sofar.now.defined.items (c.in_ok-is_defined.is_defined ∷ []) in
    let at : c.count_of-number.result ≡ 0 + length c.args.sofar.now.defined.items = omega (arith, c.count_of-number.ensures) in
    record {
      variables = c.requires.room.variables;
      functions = omega (arith, few, items, more, c.count_of-number.ensures);
      aliases = c.requires.room.aliases;
      numbers =
          c.in_ok-add_defined.ensures
          ∙ (ap (λ l. with_number c.in_ok-is_defined.is_defined c.count_of-number.result l) c.requires.room.numbers
          ∙ (sym (numbers_more c.args.sofar.now.defined.items c.in_ok-is_defined.is_defined 0 c.count_of-number.result at) ∙ ap (λ ds. numbers_from 0 ds) (sym c.in_ok-push.ensures.items)));
    }

pub returns-clause-reads : goal.returns-clause-reads
returns-clause-reads c = λ all known s operands behind h walk at.
    let b = c.args.sofar.now in
    let front = in_front _ all known c.args.m.now b s (a_record 6 operands behind) operands h walk at in
    let number = c.count_of-number.ensures ∙ functions_count _ all known c.args.m.now b s (a_record 6 operands behind) h in
    let order = c.may_follow-in_order.ensures ∙ ap (λ n. records.may_follow n 7) (sym h.last) in
    let told = c.in_ok-is_defined.ensures.reads s operands front number order (function_new _ all known c.args.m.now b s operands behind h c.count_of-number.result number) in
    answers_on (ReadsFunction s.texts s.k operands c.args.m.now c.read_function.new.m) _ (records.function_record s (judged (records.function s.texts s.k) operands)) c.in_ok-is_defined.is_defined tt told
    (λ t e v. function_sofar _ all known c.args.m.now c.read_function.new.m b _ s t operands behind c.in_ok-is_defined.is_defined h e v c.in_ok-push.ensures.items (sym c.place-sofar.ensures) refl)

pub returns-in_err-is_defined-clause-reads : goal.returns-in_err-is_defined-clause-reads
returns-in_err-is_defined-clause-reads c = λ all known s operands behind h walk at.
    let p = err_from_is_err_and c.from_residual.result c.from_residual.ensures.1 in
    let b = c.args.sofar.now in
    let front = in_front _ all known c.args.m.now b s (a_record 6 operands behind) operands h walk at in
    let number = c.count_of-number.ensures ∙ functions_count _ all known c.args.m.now b s (a_record 6 operands behind) h in
    let order = c.may_follow-in_order.ensures ∙ ap (λ n. records.may_follow n 7) (sym h.last) in
    rw (p.1, p.2) (refused_so _ _ _ _ (c.in_err-is_defined.ensures.reads s operands front number order (function_new _ all known c.args.m.now b s operands behind h c.count_of-number.result number)))

pub returns-in_err-add_defined-clause-reads : goal.returns-in_err-add_defined-clause-reads
returns-in_err-add_defined-clause-reads c = λ all known s operands behind h walk at.
    let p = err_from_is_err_and c.from_residual-in_err-add_defined.result c.from_residual-in_err-add_defined.ensures.1 in
    rw p.1 (out_of_memory _ _ p.0 p.2)

pub returns-in_err-push-clause-reads : goal.returns-in_err-push-clause-reads
returns-in_err-push-clause-reads c = λ all known s operands behind h walk at.
    let p = err_from_is_err_and c.from_residual-in_err-push.result c.from_residual-in_err-push.ensures.1 in
    rw p.1 (out_of_memory _ _ p.0 p.2)
