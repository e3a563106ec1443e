use Rattle.std.proofs.Common.{List, Option, ap, is_some, ℕ, ◌+◌, ◌∙◌, ◌≡◌}
use Rattle.bit_stream.specs.Scope.{abbreviation_of}
use Rattle.bit_stream.specs.Spelling.{record_fits}
use Rattle.bit_stream.specs.Writer.{Writer, abbreviated, define, in_force}
use Rattle.bitcode_write.proofs.ByteBlock.{admitted, fitting, found, none_in_force, whole}
use Rattle.bitcode_write.proofs.Lined.{wrote_ok}
use Rattle.record_table.specs.Spelling.{of_bytes, put}
use Rattle.bit_stream.specs.Abbreviation.{AdmittedAbbreviation}
use Rattle.bit_stream.specs.declared.abbreviation.AbbrevOp.{AbbrevOp}
use Rattle.record_write.proofs.OnOperands.Chain.{four}
use Rattle.bitcode_write.proofs.byte_blocks.put_byte_block.Goals as goal

pub define_abbreviation-requires-clause-admitted : goal.define_abbreviation-requires-clause-admitted
define_abbreviation-requires-clause-admitted c = rw c.in_ok-shape.ensures (ap (λ (t : Option AdmittedAbbreviation). is_some t) admitted)

pub abbreviated-requires-clause-fits : goal.abbreviated-requires-clause-fits
abbreviated-requires-clause-fits c = λ unspent.
    let w = c.args.out.now.writer in
    let id = c.args.id in
    let entered = c.in_ok-enter.ensures.entered in
    let four : c.in_ok-abbreviation.abbreviation ≡ 4 = c.in_ok-abbreviation.ensures.id ∙ ap (λ (x : Writer). in_force x.scope + 4) entered ∙ ap (λ (n : ℕ). n + 4) (none_in_force w id c.requires.outside c.requires.ordinary) in
    let shaped = wrote_ok _ c.enter.new.self.writer.spent _ _ _ _ (ap (λ (x : Writer). x.spent) entered ∙ c.requires.outside.unspent) c.in_ok-abbreviation.ensures.written in
    let same = shaped ∙ ap (λ (ops : List AbbrevOp). define c.enter.new.self.writer ops) c.in_ok-shape.ensures ∙ ap (λ (x : Writer). define x of_bytes) entered in
    rw four (ap (λ (t : Option AdmittedAbbreviation). record_fits t 1 c.args.bytes.now) (ap (λ (x : Writer). abbreviation_of x.scope 4) same ∙ found w id c.requires.outside c.requires.ordinary) ∙ fitting c.args.bytes.now c.requires.bytes)

pub returns-clause-put : goal.returns-clause-put
returns-clause-put c =
    let w = c.args.out.now.writer in
    let id = c.args.id in
    let entered = c.in_ok-enter.ensures.entered in
    let four : c.in_ok-abbreviation.abbreviation ≡ 4 = c.in_ok-abbreviation.ensures.id ∙ ap (λ (x : Writer). in_force x.scope + 4) entered ∙ ap (λ (n : ℕ). n + 4) (none_in_force w id c.requires.outside c.requires.ordinary) in
    let free = ap (λ (x : Writer). x.spent) entered ∙ c.requires.outside.unspent in
    let shaped = wrote_ok _ c.enter.new.self.writer.spent _ _ _ _ free c.in_ok-abbreviation.ensures.written in
    let same = shaped ∙ ap (λ (ops : List AbbrevOp). define c.enter.new.self.writer ops) c.in_ok-shape.ensures in
    let put = wrote_ok _ c.define_abbreviation.new.self.spent _ _ _ _ (ap (λ (x : Writer). x.spent) same ∙ free) c.in_ok-abbreviated.ensures in
    whole w id c.requires.outside c.requires.ordinary c.args.bytes.now _ _ _ _ entered same (put ∙ ap (λ (n : ℕ). abbreviated c.define_abbreviation.new.self n 1 c.args.bytes.now) four) c.in_ok-leave.ensures.ended
