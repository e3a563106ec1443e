use Rattle.std.proofs.Common.{◌≡◌, ◌-◌, inl, None, length, sym, ap, subst, ◌∙◌, arith}
use Rattle.std.specs.Prelude.{is_some}
use Rattle.std.proofs.lemmas.Result.{err_from_is_err_and}
use Rattle.record_table.specs.Walk.{going}
use Rattle.record_table.specs.TypeRecords.{definition}
use Rattle.record_read.specs.Fields.{texts_of}
use Rattle.record_read.specs.Reader.{Reader}
use Rattle.type_table.specs.Types.{Types, IsGood}
use Rattle.type_table.proofs.Given.{good-given, types-given}
use Rattle.type_read.specs.Fields.{IsDefinition}
use Rattle.type_read.specs.Listed.{NamesNext}
use Rattle.type_read.specs.Pending.{IsCounted, held}
use Rattle.type_read.proofs.Recording.{low_definition, next_at, next_left, reads_on}
use Rattle.type_read.proofs.Putting.{known_body, put_none, put_record}
use Rattle.type_read.proofs.listing.read_struct_record.Goals as goal
use Rattle.type_read.proofs.listing.read_struct_record.Goals.{After-are_within}

-- what holds of the arena with what pends
good : (c : After-are_within) → IsGood (held c.args.arena.now c.args.pending.now).table
good c = good-given c.args.arena.now.table c.args.pending.now.first c.args.pending.now.bodies.items c.are_within.ensures.good c.requires.pending.known

count_is : (c : After-are_within) → c.type_count-count.result ≡ length (held c.args.arena.now c.args.pending.now).table.types
count_is c =
    c.type_count-count.ensures.count ∙ ap (λ (t : Types). length t.types) c.types.ensures
    ∙ ap length (sym (types-given c.args.arena.now.table c.args.pending.now.first c.args.pending.now.bodies.items))

asks : (c : After-are_within) → NamesNext c.args.names c.args.number (is_some c.in_ok-definition.definition.name) c.read_definition.new.reader c.ask_new.new.reader
asks c = subst (λ b. NamesNext c.args.names c.args.number b c.read_definition.new.reader c.ask_new.new.reader) c.is_some.ensures c.ask_new.ensures

-- the record that is finished, or is to be, is the one in front
same_at : (c : After-are_within) → c.also.new.self.at ≡ c.args.reader.now.at
same_at c =
    ap (λ (r : Reader). r.at) c.also.ensures
    ∙ (next_at c.args.names c.args.number (is_some c.in_ok-definition.definition.name) c.read_definition.new.reader c.ask_new.new.reader (asks c) ∙ ap (λ (r : Reader). r.at) c.in_ok-definition.ensures.reader)

pub returns-in_err-definition-clause-answers : goal.returns-in_err-definition-clause-answers
returns-in_err-definition-clause-answers c = λ all s operands on number texts later so_far.
    let p = err_from_is_err_and c.from_residual.result c.from_residual.ensures.1 in
    rw p.1 (inl (inl p.2))

pub put_body-requires-clause-given : goal.put_body-requires-clause-given
put_body-requires-clause-given c =
    let at = (goal.at.put_body-requires-clause-given c).After-are_within in
    let same = same_at at in
    omega (arith, same, c.requires.given)

pub put_body-requires-clause-fields : goal.put_body-requires-clause-fields
put_body-requires-clause-fields c =
    let at = (goal.at.put_body-requires-clause-fields c).After-are_within in
    known_body (texts_of c.args.texts.now) c.type_count-count.result c.args.reader.now.walk c.in_ok-definition.definition c.in-Some.body c.args.arena.now.table
    (c.type_count-count.ensures.count ∙ ap (λ (t : Types). length t.types) c.types.ensures) c.in-Some.is c.in_ok-definition.ensures.definition

pub put_body-requires-clause-counted : goal.put_body-requires-clause-counted
put_body-requires-clause-counted c =
    let at = (goal.at.put_body-requires-clause-counted c).After-are_within in
    subst (λ n. IsCounted c.args.pending.now c.args.number (n - 1)) (sym (same_at at)) c.requires.counted

pub returns-in-Some-clause-reads : goal.returns-in-Some-clause-reads
returns-in-Some-clause-reads c =
    let at = (goal.at.returns-in-Some-clause-reads c).After-are_within in
    let kept = next_left c.args.names c.args.number (is_some c.in_ok-definition.definition.name) c.read_definition.new.reader c.ask_new.new.reader (asks at) in
    reads_on c.args.reader.now c.also.new.self c.put_body.result c.put_body.new.reader
    (ap (λ (r : Reader). r.spent) c.also.ensures ∙ (kept.0 ∙ ap (λ (r : Reader). r.spent) c.in_ok-definition.ensures.reader))
    (ap (λ (r : Reader). r.left) c.also.ensures ∙ (kept.1 ∙ ap (λ (r : Reader). r.left) c.in_ok-definition.ensures.reader))
    (same_at at) c.put_body.ensures.reads

pub returns-in-Some-clause-answers : goal.returns-in-Some-clause-answers
returns-in-Some-clause-answers c = λ all s operands on number texts later so_far.
    let at = (goal.at.returns-in-Some-clause-answers c).After-are_within in
    let made = c.in_ok-definition.definition in
    let old = c.args.reader.now in
    let read = subst (λ t. c.read_definition.new.reader ≡ record old { walk = ((definition t c.type_count-count.result).read old.walk).1 }) (sym texts) c.in_ok-definition.ensures.reader in
    let kept = subst (λ t. IsDefinition t c.type_count-count.result old.walk made) (sym texts) c.in_ok-definition.ensures.definition in
    let known = known_body (texts_of c.args.texts.now) c.type_count-count.result old.walk made c.in-Some.body c.args.arena.now.table
    (c.type_count-count.ensures.count ∙ ap (λ (t : Types). length t.types) c.types.ensures) c.in-Some.is c.in_ok-definition.ensures.definition in
    put_record c.args.arena.now c.args.pending.now c.args.names all later s operands old c.read_definition.new.reader on (good at) c.type_count-count.result c.args.number made (count_is at) number read kept so_far
    c.ask_new.new.reader c.also.new.self (asks at) c.also.ensures (same_at at ∙ on.at) c.in-Some.body c.in-Some.is known c.requires.pending c.requires.undefined c.requires.counted
    c.put_body.result c.put_body.new.arena c.put_body.new.pending c.put_body.ensures.puts

pub give-requires-clause-few : goal.give-requires-clause-few
give-requires-clause-few c =
    let at = (goal.at.give-requires-clause-few c).After-are_within in
    let place = c.requires.counted.place in
    let same = same_at at in
    omega (arith, place, same, c.is_counted.ensures)

pub returns-in_err-give-in-None-clause-answers : goal.returns-in_err-give-in-None-clause-answers
returns-in_err-give-in-None-clause-answers c = λ all s operands on number texts later so_far.
    let p = err_from_is_err_and c.from_residual-in_err-give-in-None.result c.from_residual-in_err-give-in-None.ensures.1 in
    rw (p.1, p.2) (inl c.in_err-give-in-None.ensures)

pub returns-clause-answers : goal.returns-clause-answers
returns-clause-answers c = λ all s operands on number texts later so_far.
    let at = (goal.at.returns-clause-answers c).After-are_within in
    let made = c.in_ok-definition.definition in
    let old = c.args.reader.now in
    let read = subst (λ t. c.read_definition.new.reader ≡ record old { walk = ((definition t c.type_count-count.result).read old.walk).1 }) (sym texts) c.in_ok-definition.ensures.reader in
    let kept = subst (λ t. IsDefinition t c.type_count-count.result old.walk made) (sym texts) c.in_ok-definition.ensures.definition in
    -- the same at the count of the definition, and at the operands
    let first = subst (λ w. IsDefinition (texts_of c.args.texts.now) c.type_count-count.result w made) on.walk c.in_ok-definition.ensures.definition in
    let low = low_definition c.args.texts.now (length s.types.types) operands made (subst (λ n. IsDefinition (texts_of c.args.texts.now) n (going operands None) made) (count_is at ∙ ap length on.listed.types) first) c.in-None.is in
    put_none c.args.arena.now c.args.pending.now c.args.names all later s operands old c.read_definition.new.reader on (good at) c.type_count-count.result c.args.number made (count_is at) number read kept so_far
    c.ask_new.new.reader c.also.new.self (asks at) c.also.ensures (same_at at ∙ on.at) c.finish.result c.give.new.arena c.give.new.pending c.in-None.is (rw texts low) c.in_ok-give-in-None.ensures.1 c.finish.ensures.told
