use Rattle.std.proofs.Common.{refl, sym, ap, ◌∙◌, arith, length, max, ◌∷◌, []}
use Rattle.std.proofs.lemmas.List.{length-append}
use Rattle.std.proofs.lemmas.Result.{err_from_is_err_and}
use Rattle.record_table.specs.Faults.{a_record}
use Rattle.record_table.specs.Layout.{judged}
use Rattle.record_table.specs.Records as records
use Rattle.record_read.proofs.OnOpening.Answering.{out_of_memory}
use Rattle.bitcode_read.specs.Entry.Entries.{ReadsAlias}
use Rattle.bitcode_read.proofs.Earlies.{answers_on}
use Rattle.bitcode_read.proofs.Entries.{alias_new, alias_sofar, aliases_count, functions_count, in_front, variables_count}
use Rattle.bitcode_read.proofs.Opened.{refused_so}
use Rattle.bitcode_read.proofs.records.read_alias_part.Goals as goal

pub count_of-number-requires : goal.count_of-number-requires
count_of-number-requires c = c.requires.room.aliases

pub count_of-variables-requires : goal.count_of-variables-requires
count_of-variables-requires c = c.requires.room.variables

pub count_of-functions-requires : goal.count_of-functions-requires
count_of-functions-requires c = c.requires.room.functions

pub read_alias-requires : goal.read_alias-requires
read_alias-requires c = c.requires.given

pub returns-clause-room : goal.returns-clause-room
returns-clause-room c =
    let few = c.in_ok-target.ensures.few in
    let items = ap (λ xs. length xs) c.in_ok-push.ensures.items in
    let more = length-append c.args.sofar.now.targets.items (c.in_ok-target.target ∷ []) in
    record { variables = c.requires.room.variables; functions = c.requires.room.functions; aliases = omega (arith, few, items, more, c.count_of-number.ensures); numbers = c.requires.room.numbers }

pub returns-clause-reads : goal.returns-clause-reads
returns-clause-reads c = λ all known s operands behind h walk at.
    let b = c.args.sofar.now in
    let front = in_front _ all known c.args.m.now b s (a_record 7 operands behind) operands h walk at in
    let number = c.count_of-number.ensures ∙ aliases_count _ all known c.args.m.now b s (a_record 7 operands behind) h in
    let others = c.greater-others.ensures ∙ ((λ j. max (c.count_of-variables.ensures j) (c.count_of-functions.ensures j)) ∙ (λ j. max (variables_count _ all known c.args.m.now b s (a_record 7 operands behind) h j) (functions_count _ all known c.args.m.now b s (a_record 7 operands behind) h j))) in
    let order = c.may_follow-in_order.ensures ∙ ap (λ n. records.may_follow n 8) (sym h.last) in
    let told = c.in_ok-target.ensures.reads s operands front number others order (alias_new _ all known c.args.m.now b s operands behind h c.count_of-number.result number) in
    answers_on (ReadsAlias s.texts s.k operands c.args.m.now c.read_alias.new.m) _ (records.alias_record s (judged (records.alias s.texts s.k) operands)) c.in_ok-target.target tt told
    (λ t e v. alias_sofar _ all known c.args.m.now c.read_alias.new.m b _ s t operands behind c.in_ok-target.target h e v c.in_ok-push.ensures.items (sym c.place-sofar.ensures) refl)

pub returns-in_err-target-clause-reads : goal.returns-in_err-target-clause-reads
returns-in_err-target-clause-reads c = λ all known s operands behind h walk at.
    let p = err_from_is_err_and c.from_residual.result c.from_residual.ensures.1 in
    let b = c.args.sofar.now in
    let front = in_front _ all known c.args.m.now b s (a_record 7 operands behind) operands h walk at in
    let number = c.count_of-number.ensures ∙ aliases_count _ all known c.args.m.now b s (a_record 7 operands behind) h in
    let others = c.greater-others.ensures ∙ ((λ j. max (c.count_of-variables.ensures j) (c.count_of-functions.ensures j)) ∙ (λ j. max (variables_count _ all known c.args.m.now b s (a_record 7 operands behind) h j) (functions_count _ all known c.args.m.now b s (a_record 7 operands behind) h j))) in
    let order = c.may_follow-in_order.ensures ∙ ap (λ n. records.may_follow n 8) (sym h.last) in
    rw (p.1, p.2) (refused_so _ _ _ _ (c.in_err-target.ensures.reads s operands front number others order (alias_new _ all known c.args.m.now b s operands behind h c.count_of-number.result number)))

pub returns-in_err-push-clause-reads : goal.returns-in_err-push-clause-reads
returns-in_err-push-clause-reads c = λ all known s operands behind h walk at.
    let p = err_from_is_err_and c.from_residual-in_err-push.result c.from_residual-in_err-push.ensures.1 in
    rw p.1 (out_of_memory _ _ p.0 p.2)
