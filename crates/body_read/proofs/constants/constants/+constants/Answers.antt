use Rattle.std.proofs.Common.{ℕ, ◌≡◌, ◌++◌, ◌-◌, ◌∙◌, ◌<◌, List, Option, Some, None, length, IfSome, refl, sym, ap, subst, arith}
use Rattle.std.specs.Prelude.{option_to_list}
use Rattle.ir_tables.specs.declared.opcode.Opcode.TheVariants as op
use Rattle.type_table.specs.Types.{Types}
use Rattle.module_arena.specs.declared.constant.Const.{Const}
use Rattle.module_arena.specs.declared.constant.Const.TheVariants as const
use Rattle.module_arena.specs.declared.constant.TypedConst.{TypedConst}
use Rattle.module_arena.specs.Module as m
use Rattle.module_arena.specs.TypeTests.{is_pointer}
use Rattle.record_table.specs.Constants as constants
use Rattle.record_table.specs.Fields.{ty}
use Rattle.record_table.specs.Walk.{ask, next}
use Rattle.record_read.specs.Reader.{Reader, is_broken}
use Rattle.record_read.proofs.Gathering.{loop_goes, loop_ends}
use Rattle.type_read.specs.Arena.Growing.{IsConstant}
use Rattle.type_read.specs.Arena.Kept.{HasConstant, IsKnownType, KeepsConstant, IsThere, IsRead, tree_at}
use Rattle.type_read.specs.Arena.ListParts.{nth_part, parts_at}
use Rattle.type_read.proofs.OnArena.Lasting.{ok_by}
use Rattle.type_read.proofs.OnArena.LeavesRead.{goes_asked, goes_takes}
use Rattle.type_read.proofs.OnArena.Steps.{goes_self, goes_two, kept_keeps, kept_read, still_known, still_numbers}
use Rattle.body_read.specs.declared.constants.made.NestedForm.TheVariants as nested
use Rattle.body_read.specs.Constants.Made.{HasTyped, KeepsMade, AreIndices, typed_of, pair_of, inner_of, nested_form}
use Rattle.body_read.proofs.OnConstants.Making.{goes_number, keeps_behind, read_behind, nested_is, made_keeps, computed_read, element_read, typed_there, there_stays, base_stays, within_known, table_stays, goes_cast_opcode, goes_binary_opcode, goes_flags, number_form, null_form, address_form, string_form, undef_form, poison_form, zero_form, no_form, no_room, coded_at, inner_is, list_form, element_form, cast_form, pair_form, stopped_read}
use Rattle.body_read.proofs.OnConstants.Listing.{listing_starts, listing_more, list_read, fits_still}
use Rattle.body_read.proofs.OnConstants.Indexing.{indexing_starts, indexing_more, indexing_ends, indices_keep, indices_read}
use Rattle.body_read.proofs.constants.constants.+constants.Goals as goal

pub read_constant-read_coded-requires : goal.read_constant-read_coded-requires
read_constant-read_coded-requires t c =
    let m0 = c.args.m.now in
    (omega (arith, c.decreases), still_known m0 (record m0 { reader = c.number-code.new.self }) c.args.ty (goes_number m0 c.number-code.new.self c.number-code.result c.number-code.ensures) c.requires)

pub read_constant-returns-clause-keeps : goal.read_constant-returns-clause-keeps
read_constant-returns-clause-keeps t c =
    let m0 = c.args.m.now in
    let goes = goes_number m0 c.number-code.new.self c.number-code.result c.number-code.ensures in
    ok_by c.read_coded.result _ _ c.read_coded.ensures.keeps (λ answer h. keeps_behind HasConstant m0 (record m0 { reader = c.number-code.new.self }) c.read_coded.new.m answer goes h)

pub read_constant-returns-clause-reads : goal.read_constant-returns-clause-reads
read_constant-returns-clause-reads t c =
    λ k numbers.
    let m0 = c.args.m.now in
    let m1 = record m0 { reader = c.number-code.new.self } in
    let goes = goes_number m0 c.number-code.new.self c.number-code.result c.number-code.ensures in
    ok_by c.read_coded.result _ _ (c.read_coded.ensures.reads k (still_numbers m0 m1 k goes numbers))
    (λ answer h. read_behind k m0 m1 c.read_coded.new.m _ _ answer goes
    (nested_is k c.args.depth (tree_at m0.growing.arena.table c.args.ty) m0.reader.walk c.number-code.new.self.walk c.number-code.result c.number-code.ensures.value (ap (λ (r : Reader). r.walk) c.number-code.ensures.reader)) h)

pub read_coded-returns-in-None-clause-reads : goal.read_coded-returns-in-None-clause-reads
read_coded-returns-in-None-clause-reads t c =
    λ k numbers.
    let m0 = c.args.m.now in
    let inner = inner_of k c.args.depth in
    let u = tree_at m0.growing.arena.table c.args.ty in
    let w = m0.reader.walk in
    let e : constants.of_form k inner None u w ≡ constants.by_code k inner c.args.code u w = ap (λ (f : Option constants.ConstantForm). constants.of_form k inner f u w) c.in-None.ensures in
    stopped_read k m0 c.stopped.new.m c.stopped.result 3 (constants.by_code k inner c.args.code u w) c.stopped.ensures.keeps c.stopped.ensures.walk c.stopped.ensures.none (sym e ∙ no_form k inner u w)

pub read_coded-returns-in-Some-Number-clause-reads : goal.read_coded-returns-in-Some-Number-clause-reads
read_coded-returns-in-Some-Number-clause-reads t c =
    λ k numbers.
    let m0 = c.args.m.now in
    let inner = inner_of k c.args.depth in
    let u = tree_at m0.growing.arena.table c.args.ty in
    let w = m0.reader.walk in
    let e : Some constants.Number ≡ constants.form_of_code c.args.code = rw c.in-Some-Number.field-0-is at c.in-Some-Number.ensures in
    ok_by c.read_integer.result _ _ (c.read_integer.ensures.reads k)
    (λ answer h. read_behind k m0 m0 c.read_integer.new.m _ _ answer (goes_self m0) (number_form k inner u w ∙ coded_at k inner c.args.code u w constants.Number e) h)

pub read_coded-returns-in-Some-Null-clause-reads : goal.read_coded-returns-in-Some-Null-clause-reads
read_coded-returns-in-Some-Null-clause-reads t c =
    λ k numbers.
    let m0 = c.args.m.now in
    let inner = inner_of k c.args.depth in
    let u = tree_at m0.growing.arena.table c.args.ty in
    let w = m0.reader.walk in
    let e : Some constants.NullPointer ≡ constants.form_of_code c.args.code = rw c.in-Some-Null.field-0-is at c.in-Some-Null.ensures in
    ok_by c.read_null.result _ _ (c.read_null.ensures.reads k)
    (λ answer h. read_behind k m0 m0 c.read_null.new.m _ _ answer (goes_self m0) (null_form k inner u w ∙ coded_at k inner c.args.code u w constants.NullPointer e) h)

pub read_coded-returns-in-Some-Global-clause-reads : goal.read_coded-returns-in-Some-Global-clause-reads
read_coded-returns-in-Some-Global-clause-reads t c =
    λ k numbers.
    let m0 = c.args.m.now in
    let inner = inner_of k c.args.depth in
    let u = tree_at m0.growing.arena.table c.args.ty in
    let w = m0.reader.walk in
    let e : Some constants.Global ≡ constants.form_of_code c.args.code = rw c.in-Some-Global.field-0-is at c.in-Some-Global.ensures in
    ok_by c.read_address.result _ _ (c.read_address.ensures.reads k numbers)
    (λ answer h. read_behind k m0 m0 c.read_address.new.m _ _ answer (goes_self m0) (address_form k inner u w ∙ coded_at k inner c.args.code u w constants.Global e) h)

pub read_coded-returns-in-Some-Bytewise-clause-reads : goal.read_coded-returns-in-Some-Bytewise-clause-reads
read_coded-returns-in-Some-Bytewise-clause-reads t c =
    λ k numbers.
    let m0 = c.args.m.now in
    let inner = inner_of k c.args.depth in
    let u = tree_at m0.growing.arena.table c.args.ty in
    let w = m0.reader.walk in
    let e : Some constants.Bytewise ≡ constants.form_of_code c.args.code = rw c.in-Some-Bytewise.field-0-is at c.in-Some-Bytewise.ensures in
    ok_by c.read_string.result _ _ (c.read_string.ensures.reads k)
    (λ answer h. read_behind k m0 m0 c.read_string.new.m _ _ answer (goes_self m0) (string_form k inner u w ∙ coded_at k inner c.args.code u w constants.Bytewise e) h)

pub read_coded-returns-in-Some-Undef-clause-keeps : goal.read_coded-returns-in-Some-Undef-clause-keeps
read_coded-returns-in-Some-Undef-clause-keeps t c =
    let m0 = c.args.m.now in
    ok_by c.keep_unbroken.result _ _ c.keep_unbroken.ensures (λ answer h. kept_keeps m0 m0 c.keep_unbroken.new.self const.Undef answer (goes_self m0) h)

pub read_coded-returns-in-Some-Undef-clause-reads : goal.read_coded-returns-in-Some-Undef-clause-reads
read_coded-returns-in-Some-Undef-clause-reads t c =
    λ k numbers.
    let m0 = c.args.m.now in
    let inner = inner_of k c.args.depth in
    let u = tree_at m0.growing.arena.table c.args.ty in
    let w = m0.reader.walk in
    let e : Some constants.Undefined ≡ constants.form_of_code c.args.code = rw c.in-Some-Undef.field-0-is at c.in-Some-Undef.ensures in
    ok_by c.keep_unbroken.result _ _ c.keep_unbroken.ensures
    (λ answer h. read_behind k m0 m0 c.keep_unbroken.new.self (m.Undef, w) (constants.by_code k inner c.args.code u w) answer (goes_self m0) (sym (undef_form k inner u w) ∙ coded_at k inner c.args.code u w constants.Undefined e)
    (kept_read k m0 m0 c.keep_unbroken.new.self const.Undef answer m.Undef w refl h (λ unbroken declared. refl)))

pub read_coded-returns-in-Some-Poison-clause-keeps : goal.read_coded-returns-in-Some-Poison-clause-keeps
read_coded-returns-in-Some-Poison-clause-keeps t c =
    let m0 = c.args.m.now in
    ok_by c.keep_unbroken-in-Some-Poison.result _ _ c.keep_unbroken-in-Some-Poison.ensures (λ answer h. kept_keeps m0 m0 c.keep_unbroken-in-Some-Poison.new.self const.Poison answer (goes_self m0) h)

pub read_coded-returns-in-Some-Poison-clause-reads : goal.read_coded-returns-in-Some-Poison-clause-reads
read_coded-returns-in-Some-Poison-clause-reads t c =
    λ k numbers.
    let m0 = c.args.m.now in
    let inner = inner_of k c.args.depth in
    let u = tree_at m0.growing.arena.table c.args.ty in
    let w = m0.reader.walk in
    let e : Some constants.Poisoned ≡ constants.form_of_code c.args.code = rw c.in-Some-Poison.field-0-is at c.in-Some-Poison.ensures in
    ok_by c.keep_unbroken-in-Some-Poison.result _ _ c.keep_unbroken-in-Some-Poison.ensures
    (λ answer h. read_behind k m0 m0 c.keep_unbroken-in-Some-Poison.new.self (m.Poison, w) (constants.by_code k inner c.args.code u w) answer (goes_self m0) (sym (poison_form k inner u w) ∙ coded_at k inner c.args.code u w constants.Poisoned e)
    (kept_read k m0 m0 c.keep_unbroken-in-Some-Poison.new.self const.Poison answer m.Poison w refl h (λ unbroken declared. refl)))

pub read_coded-returns-in-Some-Zero-clause-keeps : goal.read_coded-returns-in-Some-Zero-clause-keeps
read_coded-returns-in-Some-Zero-clause-keeps t c =
    let m0 = c.args.m.now in
    ok_by c.keep_unbroken-in-Some-Zero.result _ _ c.keep_unbroken-in-Some-Zero.ensures (λ answer h. kept_keeps m0 m0 c.keep_unbroken-in-Some-Zero.new.self const.ZeroInitializer answer (goes_self m0) h)

pub read_coded-returns-in-Some-Zero-clause-reads : goal.read_coded-returns-in-Some-Zero-clause-reads
read_coded-returns-in-Some-Zero-clause-reads t c =
    λ k numbers.
    let m0 = c.args.m.now in
    let inner = inner_of k c.args.depth in
    let u = tree_at m0.growing.arena.table c.args.ty in
    let w = m0.reader.walk in
    let e : Some constants.Zero ≡ constants.form_of_code c.args.code = rw c.in-Some-Zero.field-0-is at c.in-Some-Zero.ensures in
    ok_by c.keep_unbroken-in-Some-Zero.result _ _ c.keep_unbroken-in-Some-Zero.ensures
    (λ answer h. read_behind k m0 m0 c.keep_unbroken-in-Some-Zero.new.self (m.ZeroInitializer, w) (constants.by_code k inner c.args.code u w) answer (goes_self m0) (sym (zero_form k inner u w) ∙ coded_at k inner c.args.code u w constants.Zero e)
    (kept_read k m0 m0 c.keep_unbroken-in-Some-Zero.new.self const.ZeroInitializer answer m.ZeroInitializer w refl h (λ unbroken declared. refl)))

pub read_nested-returns-then-depth-eq0-clause-reads : goal.read_nested-returns-then-depth-eq0-clause-reads
read_nested-returns-then-depth-eq0-clause-reads t c =
    λ k numbers.
    let m0 = c.args.m.now in
    let inner = inner_of k c.args.depth in
    let u = tree_at m0.growing.arena.table c.args.ty in
    let w = m0.reader.walk in
    let none : inner ≡ None = ap (λ d. inner_of k d) c.if-depth-eq0.true in
    stopped_read k m0 c.stopped.new.m c.stopped.result 7 (constants.of_form k inner (Some (nested_form c.args.form)) u w) c.stopped.ensures.keeps c.stopped.ensures.walk c.stopped.ensures.none
    (ap (λ (i : Option constants.Reads). constants.of_form k i (Some (nested_form c.args.form)) u w) none ∙ no_room k inner u w c.args.form)

pub read_nested-returns-in-List-clause-reads : goal.read_nested-returns-in-List-clause-reads
read_nested-returns-in-List-clause-reads t c =
    λ k numbers.
    let m0 = c.args.m.now in
    let inner = inner_of k c.args.depth in
    let u = tree_at m0.growing.arena.table c.args.ty in
    let w = m0.reader.walk in
    let e : constants.of_form k (Some (constants.read_nested k (c.args.depth - 1))) (Some (nested_form nested.List)) u w ≡ constants.of_form k inner (Some (nested_form c.args.form)) u w = λ j. constants.of_form k (inner_is k c.args.depth c.if-depth-eq0.false j) (Some (nested_form (sym c.in-List.is j))) u w in
    ok_by c.read_list.result _ _ (c.read_list.ensures.reads k numbers)
    (λ answer h. read_behind k m0 m0 c.read_list.new.m _ _ answer (goes_self m0) (list_form k (constants.read_nested k (c.args.depth - 1)) u w ∙ e) h)

pub read_nested-returns-in-Address-clause-reads : goal.read_nested-returns-in-Address-clause-reads
read_nested-returns-in-Address-clause-reads t c =
    λ k numbers.
    let m0 = c.args.m.now in
    let inner = inner_of k c.args.depth in
    let u = tree_at m0.growing.arena.table c.args.ty in
    let w = m0.reader.walk in
    let e : constants.of_form k (Some (constants.read_nested k (c.args.depth - 1))) (Some (nested_form nested.Address)) u w ≡ constants.of_form k inner (Some (nested_form c.args.form)) u w = λ j. constants.of_form k (inner_is k c.args.depth c.if-depth-eq0.false j) (Some (nested_form (sym c.in-Address.is j))) u w in
    ok_by c.read_element.result _ _ (c.read_element.ensures.reads k numbers)
    (λ answer h. read_behind k m0 m0 c.read_element.new.m _ _ answer (goes_self m0) (element_form k (constants.read_nested k (c.args.depth - 1)) u w ∙ e) h)

pub read_nested-returns-in-Cast-clause-reads : goal.read_nested-returns-in-Cast-clause-reads
read_nested-returns-in-Cast-clause-reads t c =
    λ k numbers.
    let m0 = c.args.m.now in
    let inner = inner_of k c.args.depth in
    let u = tree_at m0.growing.arena.table c.args.ty in
    let w = m0.reader.walk in
    let e : constants.of_form k (Some (constants.read_nested k (c.args.depth - 1))) (Some (nested_form nested.Cast)) u w ≡ constants.of_form k inner (Some (nested_form c.args.form)) u w = λ j. constants.of_form k (inner_is k c.args.depth c.if-depth-eq0.false j) (Some (nested_form (sym c.in-Cast.is j))) u w in
    ok_by c.read_converted.result _ _ (c.read_converted.ensures.reads k numbers)
    (λ answer h. read_behind k m0 m0 c.read_converted.new.m _ _ answer (goes_self m0) (cast_form k (constants.read_nested k (c.args.depth - 1)) u w ∙ e) h)

pub read_nested-returns-in-Pair-clause-reads : goal.read_nested-returns-in-Pair-clause-reads
read_nested-returns-in-Pair-clause-reads t c =
    λ k numbers.
    let m0 = c.args.m.now in
    let inner = inner_of k c.args.depth in
    let u = tree_at m0.growing.arena.table c.args.ty in
    let w = m0.reader.walk in
    let e : constants.of_form k (Some (constants.read_nested k (c.args.depth - 1))) (Some (nested_form nested.Pair)) u w ≡ constants.of_form k inner (Some (nested_form c.args.form)) u w = λ j. constants.of_form k (inner_is k c.args.depth c.if-depth-eq0.false j) (Some (nested_form (sym c.in-Pair.is j))) u w in
    ok_by c.read_computed.result _ _ (c.read_computed.ensures.reads k numbers)
    (λ answer h. read_behind k m0 m0 c.read_computed.new.m _ _ answer (goes_self m0) (pair_form k (constants.read_nested k (c.args.depth - 1)) u w ∙ e) h)

pub read_computed-read_constant-requires : goal.read_computed-read_constant-requires
read_computed-read_constant-requires t c =
    let m0 = c.args.m.now in
    let r1 = c.read_binary_opcode-opcode.new.reader in
    let r2 = c.read_flags-flags.new.reader in
    let m1 = record m0 { reader = r1 } in
    let m2 = record m0 { reader = r2 } in
    let goes = goes_two m0 m1 m2 (goes_binary_opcode m0 r1 c.read_binary_opcode-opcode.result c.read_binary_opcode-opcode.ensures) (goes_flags m1 r2 c.read_binary_opcode-opcode.result c.read_flags-flags.ensures.reader) in
    (omega (arith, c.decreases), subst (IsKnownType m2) (sym c.same.ensures) (still_known m0 m2 c.args.ty goes c.requires))

pub read_computed-read_constant-requires-2 : goal.read_computed-read_constant-requires-2
read_computed-read_constant-requires-2 t c =
    let m0 = c.args.m.now in
    let r1 = c.read_binary_opcode-opcode.new.reader in
    let r2 = c.read_flags-flags.new.reader in
    let m1 = record m0 { reader = r1 } in
    let m2 = record m0 { reader = r2 } in
    let goes = goes_two m0 m1 m2 (goes_binary_opcode m0 r1 c.read_binary_opcode-opcode.result c.read_binary_opcode-opcode.ensures) (goes_flags m1 r2 c.read_binary_opcode-opcode.result c.read_flags-flags.ensures.reader) in
    let m3 = c.read_constant.new.m in
    let goes3 = goes_two m0 m2 m3 goes c.in_ok-left_value.ensures.keeps.goes in
    (omega (arith, c.decreases), subst (IsKnownType m3) (sym c.same-2.ensures) (still_known m0 m3 c.args.ty goes3 c.requires))

pub read_computed-keep_pair-requires-clause-left : goal.read_computed-keep_pair-requires-clause-left
read_computed-keep_pair-requires-clause-left t c =
    let m0 = c.args.m.now in
    let r1 = c.read_binary_opcode-opcode.new.reader in
    let r2 = c.read_flags-flags.new.reader in
    let m1 = record m0 { reader = r1 } in
    let m2 = record m0 { reader = r2 } in
    let goes = goes_two m0 m1 m2 (goes_binary_opcode m0 r1 c.read_binary_opcode-opcode.result c.read_binary_opcode-opcode.ensures) (goes_flags m1 r2 c.read_binary_opcode-opcode.result c.read_flags-flags.ensures.reader) in
    let m3 = c.read_constant.new.m in
    let m4 = c.read_constant-2.new.m in
    let left = c.in_ok-left_value.left_value in
    let right = c.in_ok-right_value.right_value in
    let goes4 = goes_two m0 m3 m4 (goes_two m0 m2 m3 goes c.in_ok-left_value.ensures.keeps.goes) c.in_ok-right_value.ensures.keeps.goes in
    let left_is : c.typed-left.result ≡ typed_of c.args.ty left = c.typed-left.ensures ∙ ap (λ (o : Option ℕ). typed_of o left) c.same-3.ensures in
    subst (λ (o : Option TypedConst). IsThere (HasTyped m4.growing.arena) o m4.reader.walk) (sym left_is)
    (typed_there m4 c.args.ty left (still_known m0 m4 c.args.ty goes4 c.requires) (there_stays m3 m4 left c.in_ok-right_value.ensures.keeps.goes c.in_ok-left_value.ensures.keeps.there))

pub read_computed-keep_pair-requires-clause-right : goal.read_computed-keep_pair-requires-clause-right
read_computed-keep_pair-requires-clause-right t c =
    let m0 = c.args.m.now in
    let r1 = c.read_binary_opcode-opcode.new.reader in
    let r2 = c.read_flags-flags.new.reader in
    let m1 = record m0 { reader = r1 } in
    let m2 = record m0 { reader = r2 } in
    let goes = goes_two m0 m1 m2 (goes_binary_opcode m0 r1 c.read_binary_opcode-opcode.result c.read_binary_opcode-opcode.ensures) (goes_flags m1 r2 c.read_binary_opcode-opcode.result c.read_flags-flags.ensures.reader) in
    let m3 = c.read_constant.new.m in
    let m4 = c.read_constant-2.new.m in
    let left = c.in_ok-left_value.left_value in
    let right = c.in_ok-right_value.right_value in
    let goes4 = goes_two m0 m3 m4 (goes_two m0 m2 m3 goes c.in_ok-left_value.ensures.keeps.goes) c.in_ok-right_value.ensures.keeps.goes in
    let left_is : c.typed-left.result ≡ typed_of c.args.ty left = c.typed-left.ensures ∙ ap (λ (o : Option ℕ). typed_of o left) c.same-3.ensures in
    subst (λ (o : Option TypedConst). IsThere (HasTyped m4.growing.arena) o m4.reader.walk) (sym c.typed-right.ensures)
    (typed_there m4 c.args.ty right (still_known m0 m4 c.args.ty goes4 c.requires) c.in_ok-right_value.ensures.keeps.there)

pub read_computed-returns-clause-keeps : goal.read_computed-returns-clause-keeps
read_computed-returns-clause-keeps t c =
    let m0 = c.args.m.now in
    let r1 = c.read_binary_opcode-opcode.new.reader in
    let r2 = c.read_flags-flags.new.reader in
    let m1 = record m0 { reader = r1 } in
    let m2 = record m0 { reader = r2 } in
    let goes = goes_two m0 m1 m2 (goes_binary_opcode m0 r1 c.read_binary_opcode-opcode.result c.read_binary_opcode-opcode.ensures) (goes_flags m1 r2 c.read_binary_opcode-opcode.result c.read_flags-flags.ensures.reader) in
    let m3 = c.read_constant.new.m in
    let m4 = c.read_constant-2.new.m in
    let left = c.in_ok-left_value.left_value in
    let right = c.in_ok-right_value.right_value in
    let goes4 = goes_two m0 m3 m4 (goes_two m0 m2 m3 goes c.in_ok-left_value.ensures.keeps.goes) c.in_ok-right_value.ensures.keeps.goes in
    let left_is : c.typed-left.result ≡ typed_of c.args.ty left = c.typed-left.ensures ∙ ap (λ (o : Option ℕ). typed_of o left) c.same-3.ensures in
    ok_by c.keep_pair.result _ _ c.keep_pair.ensures (λ answer h. made_keeps m0 m4 c.keep_pair.new.m _ answer goes4 h)

pub read_computed-returns-clause-reads : goal.read_computed-returns-clause-reads
read_computed-returns-clause-reads t c =
    λ k numbers.
    let m0 = c.args.m.now in
    let r1 = c.read_binary_opcode-opcode.new.reader in
    let r2 = c.read_flags-flags.new.reader in
    let m1 = record m0 { reader = r1 } in
    let m2 = record m0 { reader = r2 } in
    let goes = goes_two m0 m1 m2 (goes_binary_opcode m0 r1 c.read_binary_opcode-opcode.result c.read_binary_opcode-opcode.ensures) (goes_flags m1 r2 c.read_binary_opcode-opcode.result c.read_flags-flags.ensures.reader) in
    let m3 = c.read_constant.new.m in
    let m4 = c.read_constant-2.new.m in
    let left = c.in_ok-left_value.left_value in
    let right = c.in_ok-right_value.right_value in
    let goes4 = goes_two m0 m3 m4 (goes_two m0 m2 m3 goes c.in_ok-left_value.ensures.keeps.goes) c.in_ok-right_value.ensures.keeps.goes in
    let left_is : c.typed-left.result ≡ typed_of c.args.ty left = c.typed-left.ensures ∙ ap (λ (o : Option ℕ). typed_of o left) c.same-3.ensures in
    let made_is : pair_of c.read_binary_opcode-opcode.result c.read_flags-flags.result c.typed-left.result c.typed-right.result ≡ pair_of c.read_binary_opcode-opcode.result c.read_flags-flags.result (typed_of c.args.ty left) (typed_of c.args.ty right) =
    (λ j. pair_of c.read_binary_opcode-opcode.result c.read_flags-flags.result (left_is j) (c.typed-right.ensures j)) in
    let numbers2 = still_numbers m0 m2 k goes numbers in
    let numbers3 = still_numbers m2 m3 k c.in_ok-left_value.ensures.keeps.goes numbers2 in
    let first = subst (λ (o : Option ℕ). IsRead k IsConstant (constants.read_nested k c.args.depth (tree_at m2.growing.arena.table o) m2.reader.walk) m2 m3 left) c.same.ensures (c.in_ok-left_value.ensures.reads k numbers2) in
    let second = subst (λ (o : Option ℕ). IsRead k IsConstant (constants.read_nested k c.args.depth (tree_at m3.growing.arena.table o) m3.reader.walk) m3 m4 right) c.same-2.ensures (c.in_ok-right_value.ensures.reads k numbers3) in
    ok_by c.keep_pair.result _ _ c.keep_pair.ensures
    (λ answer h. computed_read k (constants.read_nested k c.args.depth) m0 m2 m3 m4 c.keep_pair.new.m r1 r2 c.read_binary_opcode-opcode.result c.read_flags-flags.result c.args.ty left right answer c.read_binary_opcode-opcode.ensures c.read_flags-flags.ensures.kept c.read_flags-flags.ensures.reader refl goes
    c.in_ok-left_value.ensures.keeps first c.in_ok-right_value.ensures.keeps second (subst (λ (o : Option Const). KeepsMade m4 o c.keep_pair.new.m answer) made_is h))

pub read_converted-keep_cast-requires-clause-to : goal.read_converted-keep_cast-requires-clause-to
read_converted-keep_cast-requires-clause-to t c =
    let m0 = c.args.m.now in
    let r1 = c.read_cast_opcode-opcode.new.reader in
    let m1 = record m0 { reader = r1 } in
    let m2 = c.read_type-from.new.m in
    let m3 = c.read_constant.new.m in
    let goes1 = goes_cast_opcode m0 r1 c.read_cast_opcode-opcode.result c.read_cast_opcode-opcode.ensures in
    let goes2 = goes_two m0 m1 m2 goes1 (goes_takes m1 m2 c.read_type-from.ensures.takes) in
    let goes3 = goes_two m0 m2 m3 goes2 c.in_ok-value.ensures.keeps.goes in
    still_known m0 m3 c.args.ty goes3 c.requires

pub read_converted-returns-clause-keeps : goal.read_converted-returns-clause-keeps
read_converted-returns-clause-keeps t c =
    let m0 = c.args.m.now in
    let r1 = c.read_cast_opcode-opcode.new.reader in
    let m1 = record m0 { reader = r1 } in
    let m2 = c.read_type-from.new.m in
    let m3 = c.read_constant.new.m in
    let goes1 = goes_cast_opcode m0 r1 c.read_cast_opcode-opcode.result c.read_cast_opcode-opcode.ensures in
    let goes2 = goes_two m0 m1 m2 goes1 (goes_takes m1 m2 c.read_type-from.ensures.takes) in
    let goes3 = goes_two m0 m2 m3 goes2 c.in_ok-value.ensures.keeps.goes in
    ok_by c.keep_cast.result _ _ c.keep_cast.ensures (λ answer h. made_keeps m0 m3 c.keep_cast.new.m _ answer goes3 h)

pub read_element-returns-clause-keeps : goal.read_element-returns-clause-keeps
read_element-returns-clause-keeps t c =
    let m0 = c.args.m.now in
    let r1 = c.ask.new.self in
    let r2 = c.read_flags-flags.new.reader in
    let m1 = record m0 { reader = r1 } in
    let m2 = record m0 { reader = r2 } in
    let m3 = c.read_type-source.new.m in
    let m4 = c.read_constant.new.m in
    let m5 = c.read_indices.new.m in
    let goes1 = goes_asked m0 r1 6 c.is_pointer-fits.result c.ask.ensures in
    let goes2 = goes_two m0 m1 m2 goes1 (goes_flags m1 r2 op.GetElementPtr c.read_flags-flags.ensures.reader) in
    let step3 = goes_takes m2 m3 c.read_type-source.ensures.takes in
    let goes3 = goes_two m0 m2 m3 goes2 step3 in
    let goes4 = goes_two m0 m3 m4 goes3 c.in_ok-base_value.ensures.keeps.goes in
    let goes5 = goes_two m0 m4 m5 goes4 c.in_ok-operands.ensures.keeps.goes in
    ok_by c.keep_address.result _ _ c.keep_address.ensures (λ answer h. made_keeps m0 m5 c.keep_address.new.m _ answer goes5 h)

pub read_element-returns-clause-reads : goal.read_element-returns-clause-reads
read_element-returns-clause-reads t c =
    λ k numbers.
    let m0 = c.args.m.now in
    let r1 = c.ask.new.self in
    let r2 = c.read_flags-flags.new.reader in
    let m1 = record m0 { reader = r1 } in
    let m2 = record m0 { reader = r2 } in
    let m3 = c.read_type-source.new.m in
    let m4 = c.read_constant.new.m in
    let m5 = c.read_indices.new.m in
    let goes1 = goes_asked m0 r1 6 c.is_pointer-fits.result c.ask.ensures in
    let goes2 = goes_two m0 m1 m2 goes1 (goes_flags m1 r2 op.GetElementPtr c.read_flags-flags.ensures.reader) in
    let step3 = goes_takes m2 m3 c.read_type-source.ensures.takes in
    let goes3 = goes_two m0 m2 m3 goes2 step3 in
    let goes4 = goes_two m0 m3 m4 goes3 c.in_ok-base_value.ensures.keeps.goes in
    let goes5 = goes_two m0 m4 m5 goes4 c.in_ok-operands.ensures.keeps.goes in
    let fit = c.is_pointer-fits.ensures ∙ ap (λ (x : Types). is_pointer (tree_at x c.args.ty)) c.table.ensures in
    let numbers2 = still_numbers m0 m2 k goes2 numbers in
    let numbers3 = still_numbers m0 m3 k goes3 numbers in
    let numbers4 = still_numbers m0 m4 k goes4 numbers in
    let base = c.in_ok-base_value.base_value in
    let indices = subst (λ (o : Option TypedConst). IsRead k (AreIndices o) (constants.typed (ty k) (constants.read_nested k c.args.depth) (next m4.reader.walk).0 (next m4.reader.walk).1) m4 m5 c.in_ok-operands.operands) c.typed-base.ensures (c.in_ok-operands.ensures.reads k numbers4) in
    ok_by c.keep_address.result _ _ c.keep_address.ensures
    (λ answer h. element_read k (constants.read_nested k c.args.depth) m0 m2 m3 m4 m5 c.keep_address.new.m r1 r2 c.is_pointer-fits.result c.read_flags-flags.result c.pointer-pointer.result c.args.ty c.read_type-source.result base c.in_ok-operands.operands answer fit c.ask.ensures
    c.read_flags-flags.ensures.kept c.read_flags-flags.ensures.reader refl goes2 step3 (c.read_type-source.ensures.reads k numbers2) c.pointer-pointer.ensures.is.tree_is c.in_ok-base_value.ensures.keeps (c.in_ok-base_value.ensures.reads k numbers3)
    c.in_ok-operands.ensures.keeps indices h)

pub read_indices-indices-init : goal.read_indices-indices-init
read_indices-indices-init t c =
    let m0 = c.args.m.now in
    let r1 = c.number-count.new.self in
    let m1 = record m0 { reader = r1 } in
    let goes1 = goes_number m0 r1 c.number-count.result c.number-count.ensures in
    indexing_starts (λ k. constants.read_nested k c.args.depth) m1 c.args.base c.number-count.result _ (base_stays m0 m1 c.args.base goes1 c.requires) (c.in_ok-push_known.ensures ∙ ap (λ (xs : List TypedConst). xs ++ option_to_list c.args.base) c.new-operands.ensures.items)

pub read_list-parts-init : goal.read_list-parts-init
read_list-parts-init t c =
    listing_starts (λ k. constants.read_nested k c.args.depth) (record c.args.m.now { reader = c.ask.new.self }) c.args.ty c.number-count.result _ c.new-parts.ensures.items

pub read_indices-indices-preserved : goal.read_indices-indices-preserved
read_indices-indices-preserved t c =
    let m1 = record c.args.m.now { reader = c.number-count.new.self } in
    let now = c.indices.m in
    let mid = c.read_type-index_type.new.m in
    let after = c.read_constant.new.m in
    let part = c.read_type-index_type.result in
    let on = loop_goes c.indices.place c.number-count.result _ (sym c.indices-test.ensures) in
    indexing_more (λ k. constants.read_nested k c.args.depth) m1 now mid after c.args.base part c.in_ok-index.index c.number-count.result c.indices.place c.indices.operands.items _ c.indices.invariant on.0 on.1
    (goes_takes now mid c.read_type-index_type.ensures.takes) c.read_type-index_type.ensures.known c.read_type-index_type.ensures.reads c.in_ok-index.ensures.keeps
    (λ k numbers. subst (λ (o : Option ℕ). IsRead k IsConstant (constants.read_nested k c.args.depth (tree_at mid.growing.arena.table o) mid.reader.walk) mid after c.in_ok-index.index) c.same.ensures (c.in_ok-index.ensures.reads k numbers))
    (c.in_ok-push_known-2.ensures ∙ ap (λ (o : Option TypedConst). c.indices.operands.items ++ option_to_list o) c.typed-kept.ensures)

pub read_indices-returns-clause-keeps : goal.read_indices-returns-clause-keeps
read_indices-returns-clause-keeps t c =
    let m0 = c.args.m.now in
    let m1 = record m0 { reader = c.number-count.new.self } in
    let goes1 = goes_number m0 c.number-count.new.self c.number-count.result c.number-count.ensures in
    indices_keep (λ k. constants.read_nested k c.args.depth) m0 m1 c.indices.m c.args.base c.number-count.result c.indices.place c.indices.operands.items c.unbroken.result goes1 c.indices.invariant (is_broken c.indices.m.reader.walk) refl c.unbroken.ensures

pub read_indices-returns-clause-reads : goal.read_indices-returns-clause-reads
read_indices-returns-clause-reads t c =
    λ k numbers.
    let m0 = c.args.m.now in
    let m1 = record m0 { reader = c.number-count.new.self } in
    let goes1 = goes_number m0 c.number-count.new.self c.number-count.result c.number-count.ensures in
    let ends = indexing_ends (λ k. constants.read_nested k c.args.depth) m1 c.indices.m c.args.base c.number-count.result c.indices.place c.indices.operands.items k c.indices.invariant (still_numbers m0 m1 k goes1 numbers) (loop_ends c.indices.place c.number-count.result _ (sym c.indices-test.ensures)) in
    indices_read (λ k. constants.read_nested k c.args.depth) m0 m1 c.indices.m c.args.base c.number-count.result c.indices.operands.items c.unbroken.result k goes1 ends c.number-count.ensures.value (ap (λ (r : Reader). r.walk) c.number-count.ensures.reader) (is_broken c.indices.m.reader.walk) refl c.unbroken.ensures

pub read_list-read_constant-requires : goal.read_list-read_constant-requires
read_list-read_constant-requires t c =
    let m0 = c.args.m.now in
    let r0 = c.number-count.new.self in
    let m1 = record m0 { reader = r0 } in
    let m2 = record m0 { reader = c.ask.new.self } in
    let goes2 = goes_two m0 m1 m2 (goes_number m0 r0 c.number-count.result c.number-count.ensures) (goes_asked m1 c.ask.new.self 6 c.has_parts-fits.result c.ask.ensures) in
    let now = c.parts.m in
    let goes_now = goes_two m0 m2 now goes2 c.parts.invariant.goes in
    let known = subst (λ (x : Types). IfSome c.part_at-part.result (λ id. id < length x.types)) c.table-in-parts.ensures c.part_at-part.ensures.known in
    let on = loop_goes c.parts.place c.number-count.result _ (sym c.parts-test.ensures) in
    let ps_is : parts_at c.table-in-parts.result.now c.same-in-parts.result ≡ parts_at now.growing.arena.table c.args.ty = (λ j. parts_at (c.table-in-parts.ensures j) (c.same-in-parts.ensures j)) in
    let table : now.growing.arena.table ≡ m0.growing.arena.table = table_stays m0 now goes_now in
    let fit : c.has_parts-fits.result ≡ constants.has_parts (parts_at m0.growing.arena.table c.args.ty) c.number-count.result = c.has_parts-fits.ensures ∙ (λ j. constants.has_parts (parts_at (c.table.ensures j) (c.same.ensures j)) c.number-count.result) in (
      omega (arith, c.decreases),
      subst (IsKnownType now) (sym c.same-in-parts-2.ensures) (within_known now c.part_at-part.result known
          (λ unbroken. c.part_at-part.ensures.there c.number-count.result on.0
          (ap (λ (ps : constants.Parts). constants.has_parts ps c.number-count.result) ps_is ∙ (ap (λ (x : Types). constants.has_parts (parts_at x c.args.ty) c.number-count.result) table ∙ (sym fit
          ∙ fits_still m2 now r0.walk c.has_parts-fits.result (ap (λ (r : Reader). r.walk) c.ask.ensures) c.stops_where_broken.ensures c.parts.invariant.goes.lasts unbroken))))),
    )

pub read_list-parts-preserved : goal.read_list-parts-preserved
read_list-parts-preserved t c =
    let m0 = c.args.m.now in
    let r0 = c.number-count.new.self in
    let m1 = record m0 { reader = r0 } in
    let m2 = record m0 { reader = c.ask.new.self } in
    let goes2 = goes_two m0 m1 m2 (goes_number m0 r0 c.number-count.result c.number-count.ensures) (goes_asked m1 c.ask.new.self 6 c.has_parts-fits.result c.ask.ensures) in
    let now = c.parts.m in
    let goes_now = goes_two m0 m2 now goes2 c.parts.invariant.goes in
    let known = subst (λ (x : Types). IfSome c.part_at-part.result (λ id. id < length x.types)) c.table-in-parts.ensures c.part_at-part.ensures.known in
    let after = c.read_constant.new.m in
    let part = c.part_at-part.result in
    let on = loop_goes c.parts.place c.number-count.result _ (sym c.parts-test.ensures) in
    let ps_is : parts_at c.table-in-parts.result.now c.same-in-parts.result ≡ parts_at now.growing.arena.table c.args.ty = (λ j. parts_at (c.table-in-parts.ensures j) (c.same-in-parts.ensures j)) in
    let tree_is = (λ j. tree_at (sym c.table-in-parts.ensures j) part) ∙ (c.part_at-part.ensures.tree ∙ ap (λ (ps : constants.Parts). constants.first_part (nth_part c.parts.place ps)) ps_is) in
    let table : now.growing.arena.table ≡ m0.growing.arena.table = table_stays m0 now goes_now in
    let fit : c.has_parts-fits.result ≡ constants.has_parts (parts_at m0.growing.arena.table c.args.ty) c.number-count.result = c.has_parts-fits.ensures ∙ (λ j. constants.has_parts (parts_at (c.table.ensures j) (c.same.ensures j)) c.number-count.result) in
    listing_more (λ k. constants.read_nested k c.args.depth) m2 now after c.args.ty part c.in_ok-value.value c.number-count.result c.parts.place c.parts.parts.items _ c.parts.invariant on.0 on.1 tree_is known
    (λ unbroken. c.part_at-part.ensures.there c.number-count.result on.0
    (ap (λ (ps : constants.Parts). constants.has_parts ps c.number-count.result) ps_is ∙ (ap (λ (x : Types). constants.has_parts (parts_at x c.args.ty) c.number-count.result) table ∙ (sym fit
    ∙ fits_still m2 now r0.walk c.has_parts-fits.result (ap (λ (r : Reader). r.walk) c.ask.ensures) c.stops_where_broken.ensures c.parts.invariant.goes.lasts unbroken))))
    c.in_ok-value.ensures.keeps
    (λ k numbers. subst (λ (o : Option ℕ). IsRead k IsConstant (constants.read_nested k c.args.depth (tree_at now.growing.arena.table o) now.reader.walk) now after c.in_ok-value.value) c.same-in-parts-2.ensures (c.in_ok-value.ensures.reads k numbers))
    (c.in_ok-push_known.ensures ∙ ap (λ (o : Option TypedConst). c.parts.parts.items ++ option_to_list o) c.typed-kept.ensures)

pub read_list-returns-clause-keeps : goal.read_list-returns-clause-keeps
read_list-returns-clause-keeps t c =
    let m0 = c.args.m.now in
    let r0 = c.number-count.new.self in
    let m1 = record m0 { reader = r0 } in
    let m2 = record m0 { reader = c.ask.new.self } in
    let goes2 = goes_two m0 m1 m2 (goes_number m0 r0 c.number-count.result c.number-count.ensures) (goes_asked m1 c.ask.new.self 6 c.has_parts-fits.result c.ask.ensures) in
    let now = c.parts.m in
    let goes_now = goes_two m0 m2 now goes2 c.parts.invariant.goes in
    ok_by c.keep_unbroken.result _ _ c.keep_unbroken.ensures (λ answer h. kept_keeps m0 now c.keep_unbroken.new.self _ answer goes_now h)

pub read_list-returns-clause-reads : goal.read_list-returns-clause-reads
read_list-returns-clause-reads t c =
    λ k numbers.
    let m0 = c.args.m.now in
    let r0 = c.number-count.new.self in
    let m1 = record m0 { reader = r0 } in
    let m2 = record m0 { reader = c.ask.new.self } in
    let goes2 = goes_two m0 m1 m2 (goes_number m0 r0 c.number-count.result c.number-count.ensures) (goes_asked m1 c.ask.new.self 6 c.has_parts-fits.result c.ask.ensures) in
    let now = c.parts.m in
    let goes_now = goes_two m0 m2 now goes2 c.parts.invariant.goes in
    let fit : c.has_parts-fits.result ≡ constants.has_parts (parts_at m0.growing.arena.table c.args.ty) c.number-count.result = c.has_parts-fits.ensures ∙ (λ j. constants.has_parts (parts_at (c.table.ensures j) (c.same.ensures j)) c.number-count.result) in
    let walk_is = ap (λ (r : Reader). r.walk) c.ask.ensures ∙ ap (λ w. ask 6 c.has_parts-fits.result w) (ap (λ (r : Reader). r.walk) c.number-count.ensures.reader) in
    let round_is = c.brackets_of-brackets.ensures ∙ ap (λ (x : Types). constants.brackets_of (parts_at x c.args.ty)) c.table-2.ensures in
    ok_by c.keep_unbroken.result _ _ c.keep_unbroken.ensures
    (λ answer h. list_read k (λ k. constants.read_nested k c.args.depth) m0 m2 now c.keep_unbroken.new.self c.args.ty c.number-count.result c.parts.place c.parts.parts.items c.brackets_of-brackets.result c.has_parts-fits.result answer numbers goes2
    c.number-count.ensures.value fit walk_is c.parts.invariant (loop_ends c.parts.place c.number-count.result _ (sym c.parts-test.ensures)) round_is
    (subst (λ items. KeepsConstant now (const.Aggregate c.brackets_of-brackets.result items) c.keep_unbroken.new.self answer) c.from_vec.ensures h))
