use Rattle.std.proofs.Common.{ℕ, List, Some, length, sym, ap, ◌∙◌, arith}
use Rattle.ir_lexer.specs.Pieces.{Nothing, Space}
use Rattle.ir_lexer.specs.declared.token.TokenKind.TheVariants as kind
use Rattle.type_table.specs.Types.{Types, tree}
use Rattle.module_arena.specs.declared.constant.TypedConst.{TypedConst}
use Rattle.module_arena.specs.declared.constant.ConstAddress.{ConstAddress}
use Rattle.module_arena.specs.declared.constant.ConstPair.{ConstPair}
use Rattle.module_arena.specs.View.{brackets_view}
use Rattle.canonical.specs.Phrase.{listed, token}
use Rattle.canonical.specs.Names.{global, byte_string}
use Rattle.canonical.specs.Types.{type_phrase}
use Rattle.canonical.specs.Constants.{integer_phrase}
use Rattle.ir_printer.specs.Phrases.Printing.{separator_of}
use Rattle.ir_printer.proofs.OnPhrases.Printing.{prints_same}
use Rattle.module_arena.proofs.ConstantsTold.{const_known, constant_here}
use Rattle.ir_printer.specs.Phrases.Parts.{bracket_opening, element_address, binary}
use Rattle.ir_printer.proofs.OnPhrases.Parts.{top, below_top, top_within, phrases, many_phrases, part_put, parts_put, brackets_put, typed_put, element_put, cast_put, binary_put, all_parts, one_part, is_named}
use Rattle.ir_printer.proofs.phrases.constants.+constants.Goals as goal

pub put_constants-put_typed-requires : goal.put_constants-put_typed-requires
put_constants-put_typed-requires g t c =
    λ κs le.
    let deep = below_top c.args.parts.now c.parts.place c.index-parts-place.result c.parts-test.true in
    let same = ap (λ (p : TypedConst). p.value) c.index-parts-place.is in
    (omega (arith, deep, c.decreases, same), (le, rw c.index-parts-place.is (c.requires c.parts.place c.index-parts-place.result c.parts-test.true)))

pub put_constants-parts-preserved : goal.put_constants-parts-preserved
put_constants-parts-preserved g t c = λ now h.
    c.parts.invariant now (part_put c.args.arena.now c.args.parts.now c.parts.place c.index-parts-place.result (separator_of c.before-in-parts.result) (separator_of c.args.behind) (omega arith) c.index-parts-place.is c.before-in-parts.ensures c.put_typed.ensures c.put_comma.ensures h)

pub put_constants-returns : goal.put_constants-returns
put_constants-returns g t c = c.parts.invariant _ (parts_put c.args.arena.now c.args.parts.now c.parts.place (separator_of c.args.behind) _ (omega arith))

pub put_typed-returns : goal.put_typed-returns
put_typed-returns g t c =
    typed_put _ _ (separator_of c.args.behind)
    (prints_same (ap (λ (x : Types). type_phrase (tree x c.args.part.ty) Space) c.types.ensures) c.put_type.ensures) c.put_constant.ensures

pub put_element_address-returns : goal.put_element_address-returns
put_element_address-returns g t c =
    let a = c.args.arena.now in
    element_put a (separator_of c.args.behind) c.args.flags c.args.address.now (c.put_token.ensures kind.Word) c.put_address_flags.ensures (c.put_token-2.ensures kind.Punctuation)
    (prints_same (ap (λ (x : Types). type_phrase (tree x c.args.address.now.source) Nothing) c.types.ensures) c.put_type.ensures)
    (c.put_token-3.ensures kind.Punctuation)
    (prints_same (ap (λ (ps : List TypedConst). listed (phrases a ps) Nothing) c.as_slice.ensures) c.put_constants.ensures)
    (c.put_token-4.ensures kind.Punctuation)

pub put_cast-returns : goal.put_cast-returns
put_cast-returns g t c =
    let a = c.args.arena.now in
    cast_put a (separator_of c.args.behind) c.args.opcode c.args.operand c.args.to
    (prints_same (ap (λ (s : List ℕ). token kind.Word s Space) (c.as_bytes.ensures.value ∙ c.word.ensures)) (c.put_token.ensures kind.Word))
    (c.put_token-2.ensures kind.Punctuation) c.put_typed.ensures (c.put_token-3.ensures kind.Word)
    (prints_same (ap (λ (x : Types). type_phrase (tree x c.args.to) Nothing) c.types.ensures) c.put_type.ensures)
    (c.put_token-4.ensures kind.Punctuation)

pub put_binary-returns : goal.put_binary-returns
put_binary-returns g t c =
    let a = c.args.arena.now in
    binary_put a (separator_of c.args.behind) c.args.opcode c.args.flags c.args.pair
    (prints_same (ap (λ (s : List ℕ). token kind.Word s Space) (c.as_bytes.ensures.value ∙ c.word.ensures)) (c.put_token.ensures kind.Word))
    c.put_flags.ensures (c.put_token-2.ensures kind.Punctuation) c.put_typed.ensures (c.put_token-3.ensures kind.Punctuation) c.put_typed-2.ensures (c.put_token-4.ensures kind.Punctuation)

pub put_constant-name-requires : goal.put_constant-name-requires
put_constant-name-requires g t c = (const_known c.args.arena.now c.variable_count-count.ensures.good c.args.constant _ (c.constant.ensures ∙ ap Some c.in-Address.is)).globals_known 0 c.in-Address.entry (omega arith)

pub put_constant-put_constants-requires : goal.put_constant-put_constants-requires
put_constant-put_constants-requires g t c =
    λ κs le.
    let known = const_known c.args.arena.now c.variable_count-count.ensures.good c.args.constant _ (c.constant.ensures ∙ ap Some c.in-Aggregate.is) in
    let high = top_within _ _ c.args.constant known.typed_known in
    let same = ap top c.as_slice-parts.ensures in
    (omega (arith, high, c.decreases, same), (le, rw c.as_slice-parts.ensures (all_parts c.args.arena.now c.args.constant _ c.requires.constant known.typed_known)))

pub put_constant-put_element_address-requires : goal.put_constant-put_element_address-requires
put_constant-put_element_address-requires g t c =
    λ κs le.
    let known = const_known c.args.arena.now c.variable_count-count.ensures.good c.args.constant _ (c.constant.ensures ∙ ap Some c.in-ElementAddress.is) in
    let high = top_within _ _ c.args.constant known.typed_known in
    let same = ap (λ (x : ConstAddress). top x.operands) c.get.ensures in (
      omega (arith, high, c.decreases, same),
      (
        le,
        (
          rw c.get.ensures (known.types_known 0 c.in-ElementAddress.address.source (omega arith)),
          rw c.get.ensures (all_parts c.args.arena.now c.args.constant _ c.requires.constant known.typed_known),
        ),
      ),
    )

pub put_constant-put_cast-requires : goal.put_constant-put_cast-requires
put_constant-put_cast-requires g t c =
    λ κs le.
    let known = const_known c.args.arena.now c.variable_count-count.ensures.good c.args.constant _ (c.constant.ensures ∙ ap Some c.in-Cast.is) in
    let part = known.typed_known 0 c.in-Cast.operand (omega arith) in
    let deep = part.1 in
    (omega (arith, deep, c.decreases), (le, (one_part c.args.arena.now c.args.constant c.in-Cast.operand c.requires.constant part, known.types_known 0 c.in-Cast.to (omega arith))))

pub put_constant-put_binary-requires : goal.put_constant-put_binary-requires
put_constant-put_binary-requires g t c =
    λ κs le.
    let known = const_known c.args.arena.now c.variable_count-count.ensures.good c.args.constant _ (c.constant.ensures ∙ ap Some c.in-Binary.is) in
    let left = known.typed_known 0 c.in-Binary.pair.left (omega arith) in
    let right = known.typed_known 1 c.in-Binary.pair.left (omega arith) in
    let left_deep = left.1 in
    let right_deep = right.1 in
    let same_left = ap (λ (p : ConstPair). p.left.value) c.get-in-Binary.ensures in
    let same_right = ap (λ (p : ConstPair). p.right.value) c.get-in-Binary.ensures in (
      omega (arith, left_deep, right_deep, c.decreases, same_left, same_right),
      (
        le,
        (
          rw c.get-in-Binary.ensures (one_part c.args.arena.now c.args.constant c.in-Binary.pair.left c.requires.constant left),
          rw c.get-in-Binary.ensures (one_part c.args.arena.now c.args.constant c.in-Binary.pair.right c.requires.constant right),
        ),
      ),
    )

pub put_constant-returns-in-Integer : goal.put_constant-returns-in-Integer
put_constant-returns-in-Integer g t c =
    rw (constant_here c.args.arena.now c.variable_count-count.ensures.good c.args.constant _ (c.constant.ensures ∙ ap Some c.in-Integer.is))
    (prints_same (ap (λ (x : Types). integer_phrase (tree x c.args.ty) c.in-Integer.value (separator_of c.args.behind)) c.types.ensures) c.put_integer.ensures)

pub put_constant-returns-in-Truth : goal.put_constant-returns-in-Truth
put_constant-returns-in-Truth g t c = rw (constant_here c.args.arena.now c.variable_count-count.ensures.good c.args.constant _ (c.constant.ensures ∙ ap Some c.in-Truth.is)) c.put_truth.ensures

pub put_constant-returns-in-Address : goal.put_constant-returns-in-Address
put_constant-returns-in-Address g t c =
    rw (constant_here c.args.arena.now c.variable_count-count.ensures.good c.args.constant _ (c.constant.ensures ∙ ap Some c.in-Address.is))
    (prints_same (ap (λ (n : List ℕ). global n (separator_of c.args.behind)) (sym (is_named c.args.arena.now c.in-Address.entry c.name.result.now c.name.ensures))) c.put_global.ensures)

pub put_constant-returns-in-ByteString : goal.put_constant-returns-in-ByteString
put_constant-returns-in-ByteString g t c =
    rw (constant_here c.args.arena.now c.variable_count-count.ensures.good c.args.constant _ (c.constant.ensures ∙ ap Some c.in-ByteString.is))
    (prints_same (ap (λ (b : List ℕ). byte_string b (separator_of c.args.behind)) c.bytes.ensures) c.put_byte_string.ensures)

pub put_constant-returns-in-Aggregate : goal.put_constant-returns-in-Aggregate
put_constant-returns-in-Aggregate g t c =
    let a = c.args.arena.now in
    let round = brackets_view c.in-Aggregate.brackets in
    rw (constant_here c.args.arena.now c.variable_count-count.ensures.good c.args.constant _ (c.constant.ensures ∙ ap Some c.in-Aggregate.is))
    (brackets_put round (phrases a c.in-Aggregate.elements) (separator_of c.args.behind)
    (prints_same (ap (bracket_opening round) (ap length c.as_slice-parts.ensures ∙ sym (many_phrases a c.in-Aggregate.elements))) c.put_bracket.ensures)
    (prints_same (ap (listed (phrases a c.in-Aggregate.elements)) c.last_in.ensures)
    (prints_same (ap (λ (ps : List TypedConst). listed (phrases a ps) (separator_of c.last_in.result)) c.as_slice-parts.ensures) c.put_constants.ensures))
    c.put_bracket_behind.ensures)

pub put_constant-returns-in-ElementAddress : goal.put_constant-returns-in-ElementAddress
put_constant-returns-in-ElementAddress g t c =
    rw (constant_here c.args.arena.now c.variable_count-count.ensures.good c.args.constant _ (c.constant.ensures ∙ ap Some c.in-ElementAddress.is)) (prints_same (ap (λ (x : ConstAddress). element_address c.args.arena.now c.in-ElementAddress.flags x (separator_of c.args.behind)) c.get.ensures) c.put_element_address.ensures)

pub put_constant-returns-in-Cast : goal.put_constant-returns-in-Cast
put_constant-returns-in-Cast g t c = rw (constant_here c.args.arena.now c.variable_count-count.ensures.good c.args.constant _ (c.constant.ensures ∙ ap Some c.in-Cast.is)) c.put_cast.ensures

pub put_constant-returns-in-Binary : goal.put_constant-returns-in-Binary
put_constant-returns-in-Binary g t c =
    rw (constant_here c.args.arena.now c.variable_count-count.ensures.good c.args.constant _ (c.constant.ensures ∙ ap Some c.in-Binary.is)) (prints_same (ap (λ (p : ConstPair). binary c.args.arena.now c.in-Binary.opcode c.in-Binary.flags p (separator_of c.args.behind)) c.get-in-Binary.ensures) c.put_binary.ensures)

pub put_constant-returns-in-Null : goal.put_constant-returns-in-Null
put_constant-returns-in-Null g t c = rw (constant_here c.args.arena.now c.variable_count-count.ensures.good c.args.constant _ (c.constant.ensures ∙ ap Some c.in-Null.is)) (c.put_token.ensures kind.Word)

pub put_constant-returns-in-Undef : goal.put_constant-returns-in-Undef
put_constant-returns-in-Undef g t c = rw (constant_here c.args.arena.now c.variable_count-count.ensures.good c.args.constant _ (c.constant.ensures ∙ ap Some c.in-Undef.is)) (c.put_token-in-Undef.ensures kind.Word)

pub put_constant-returns-in-Poison : goal.put_constant-returns-in-Poison
put_constant-returns-in-Poison g t c = rw (constant_here c.args.arena.now c.variable_count-count.ensures.good c.args.constant _ (c.constant.ensures ∙ ap Some c.in-Poison.is)) (c.put_token-in-Poison.ensures kind.Word)

pub put_constant-returns-in-ZeroInitializer : goal.put_constant-returns-in-ZeroInitializer
put_constant-returns-in-ZeroInitializer g t c = rw (constant_here c.args.arena.now c.variable_count-count.ensures.good c.args.constant _ (c.constant.ensures ∙ ap Some c.in-ZeroInitializer.is)) (c.put_token-in-ZeroInitializer.ensures kind.Word)
