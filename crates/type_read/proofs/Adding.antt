-- A type or a struct that was read, added to the table.
use Rattle.std.proofs.Common.{◌≡◌, ◌≢◌, ◌<◌, ◌+◌, ◌/◌, ◌%◌, ◌*◌, ◌^◌, ◌&&◌, ◌||◌, ℕ, zero, suc, Bool, true, false, cond, List, [], ◌∷◌, ◌++◌, Option, Some, length, get_or, set, AllPairs, refl, sym, ap, subst, ◌∙◌, arith}
use Rattle.std.specs.Prelude.{Result, Ok, Err, bytes_eq, not}
use Rattle.std.specs.List.{list_all, list_any}
use Rattle.std.proofs.lemmas.Bool.{and_parts, both_ways, not-true}
use Rattle.std.proofs.lemmas.List.{length-map}
use Rattle.std.proofs.Math.Nat.{div-div-eq-div-mul}
use Rattle.type_table.specs.declared.fault.TypeFault.{TypeFault}
use Rattle.type_table.specs.declared.ir_type.IrType.{IrType}
use Rattle.type_table.specs.declared.ir_type.StructBody.{StructBody}
use Rattle.type_table.specs.Limits.{IsWithin, HasFault}
use Rattle.type_table.specs.Types.{Types, IsGood, Knows, AllKnown, names, with_type, with_body}
use Rattle.type_table.proofs.Defined.{names-defined, bodies-defined}
use Rattle.module_arena.specs.Changes.{with_table}
use Rattle.module_arena.specs.Lists.{Lists}
use Rattle.module_arena.specs.Module.{Bytes}
use Rattle.module_arena.specs.WellFormed.{is_within_limits}
use Rattle.std.proofs.lemmas.Slice.Eq.{bytes_eq-Decides}
use Rattle.type_table.proofs.Added.{AllKnown-push}
use Rattle.record_table.specs.Fields.{is_name}
use Rattle.record_table.specs.TypeRecords.{Listed, all_fit, are_distinct, called, stand_in, stand_ins}
use Rattle.record_read.specs.Reader.{Reader}
use Rattle.record_read.specs.declared.fault.BitcodeFault.{BitcodeFault}
use Rattle.type_read.specs.Listed.{AddsType, IsRefusedBy, IsListed}
use Rattle.type_read.specs.declared.structs.StructNames.{StructNames}
use Rattle.type_read.proofs.Alike.{same_shapes}
use Rattle.type_read.proofs.Fits.{within_fits, refused_unfit}

-- what was added is within the limits
pub added : (after : Types) (old new : Lists) (before : Reader) → new ≡ with_table old after → IsWithin new.table → AddsType after old before (Ok tt) new before
added after old new before is within =
    let fits : all_fit after ≡ true = within_fits after (subst IsWithin (ap (λ (a : Lists). a.table) is) within) in
    (λ h. is, rw fits refl)

-- what is refused is not
pub refused : (after : Types) (old new : Lists) (before now : Reader) (why : TypeFault) (result : Result (Unit {0}) BitcodeFault) → HasFault after why → IsRefusedBy why before result now → AddsType after old before result new now
refused after old new before now why (Ok done) h r =
    let unfit = refused_unfit after why h r.0 in
    (λ e. absurd (both_ways (all_fit after) unfit e), rw unfit r.1)
refused after old new before now why (Err told) h r = r

-- ---- names that are apart

not_later : (n : Bytes) (ns : List Bytes) → list_any (bytes_eq n) ns ≡ false → (i : ℕ) (d : Bytes) → i < length ns → n ≢ get_or ns i d
not_later n [] h i d lt = absurd (omega arith)
not_later n (m ∷ ns) h zero d lt = λ e. both_ways (bytes_eq n m) (first_false (bytes_eq n m) (list_any (bytes_eq n) ns) h) ((bytes_eq-Decides n m).1 e)
  where
    first_false : (a b : Bool) → (a || b) ≡ false → a ≡ false
    first_false true b e = absurd (cc)
    first_false false b e = refl
not_later n (m ∷ ns) h (suc i) d lt = not_later n ns (later_false (bytes_eq n m) (list_any (bytes_eq n) ns) h) i d (omega arith)
  where
    later_false : (a b : Bool) → (a || b) ≡ false → b ≡ false
    later_false true b e = absurd (cc)
    later_false false b e = e

pub distinct_apart : (ns : List Bytes) → are_distinct ns ≡ true → AllPairs (λ a b. a ≢ b) ns
distinct_apart [] h i j d lt le = absurd (omega arith)
distinct_apart (n ∷ ns) h zero zero d lt le = absurd (omega arith)
distinct_apart (n ∷ ns) h zero (suc j) d lt le = not_later n ns (not-true (list_any (bytes_eq n) ns) (and_parts (not (list_any (bytes_eq n) ns)) (are_distinct ns) h).0) j d (omega arith)
distinct_apart (n ∷ ns) h (suc i) zero d lt le = absurd (omega arith)
distinct_apart (n ∷ ns) h (suc i) (suc j) d lt le = distinct_apart ns (and_parts (not (list_any (bytes_eq n) ns)) (are_distinct ns) h).1 i j d (omega arith) (omega arith)

-- the digits of a number in base 255: with its quotients named, all is linear
digits_by : (n a b c : ℕ) → a ≡ n / 255 → b ≡ a / 255 → c ≡ b / 255 → n < 255 ^ 4 → n ≡ 16581375 * (c % 255) + 65025 * (b % 255) + 255 * (a % 255) + n % 255
digits_by n a b c first second third less = omega arith

digits : (n : ℕ) → n < 255 ^ 4 → n ≡ 16581375 * (n / 16581375 % 255) + 65025 * (n / 65025 % 255) + 255 * (n / 255 % 255) + n / 1 % 255
digits n less =
    let b : n / 65025 ≡ n / 255 / 255 = sym (div-div-eq-div-mul n 255 255) in
    let c : n / 16581375 ≡ n / 65025 / 255 = sym (div-div-eq-div-mul n 65025 255) in
    let d : n / 1 ≡ n = omega arith in
    digits_by n (n / 255) (n / 65025) (n / 16581375) refl b c less ∙ ap (λ m. 16581375 * (n / 16581375 % 255) + 65025 * (n / 65025 % 255) + 255 * (n / 255 % 255) + m % 255) (sym d)

head_is : (a b : ℕ) (xs ys : List ℕ) → a ∷ xs ≡ b ∷ ys → a ≡ b
head_is a b xs ys e = cc

tail_is : (a b : ℕ) (xs ys : List ℕ) → a ∷ xs ≡ b ∷ ys → xs ≡ ys
tail_is a b xs ys e = cc

same_digits : (a b c d e f g h m n : ℕ) → m ≡ 16581375 * a + 65025 * b + 255 * c + d → n ≡ 16581375 * e + 65025 * f + 255 * g + h → 1 + a ≡ 1 + e → 1 + b ≡ 1 + f → 1 + c ≡ 1 + g → 1 + d ≡ 1 + h → m ≡ n
same_digits a b c d e f g h m n here there first second third fourth = omega arith

one_number : (m n : ℕ) → m < 255 ^ 4 → n < 255 ^ 4 → stand_in m ≡ stand_in n → m ≡ n
one_number m n less small e =
    let second = tail_is _ _ _ _ e in
    let third = tail_is _ _ _ _ second in
    let fourth = tail_is _ _ _ _ third in
    same_digits _ _ _ _ _ _ _ _ m n (digits m less) (digits n small) (head_is _ _ _ _ e) (head_is _ _ _ _ second) (head_is _ _ _ _ third) (head_is _ _ _ _ fourth)

stand_in_at : (first : ℕ) (ns : List Bytes) (i : ℕ) (d : Bytes) → i < length ns → get_or (stand_ins first ns) i d ≡ stand_in (first + i)
stand_in_at first [] i d lt = absurd (omega arith)
stand_in_at first (n ∷ ns) zero d lt = ap stand_in (zeroth first)
  where
    zeroth : (k : ℕ) → k ≡ k + 0
    zeroth k = omega arith
stand_in_at first (n ∷ ns) (suc i) d lt = stand_in_at (suc first) ns i d (omega arith) ∙ ap stand_in (shifted first i)
  where
    shifted : (k i : ℕ) → suc k + i ≡ k + suc i
    shifted k i = omega arith

length_stand_ins : (first : ℕ) (ns : List Bytes) → length (stand_ins first ns) ≡ length ns
length_stand_ins first [] = refl
length_stand_ins first (n ∷ ns) = ap suc (length_stand_ins (suc first) ns)

stand_ins_apart : (ns : List Bytes) → length ns < 2 ^ 31 → AllPairs (λ a b. a ≢ b) (stand_ins 0 ns)
stand_ins_apart ns few i j d lt le = λ e.
    let many = length_stand_ins 0 ns in
    let same = one_number (0 + i) (0 + j) (omega (arith, many)) (omega (arith, many)) (sym (stand_in_at 0 ns i d (omega (arith, many))) ∙ (e ∙ stand_in_at 0 ns j d (omega (arith, many)))) in
    omega (arith, same)

-- what structs are called is apart
pub called_apart : (all : List Bytes) → length all < 2 ^ 31 → AllPairs (λ a b. a ≢ b) (called all)
called_apart all few = by_test (list_all is_name all && are_distinct all) refl
  where
    by_test : (b : Bool) → (list_all is_name all && are_distinct all) ≡ b → AllPairs (λ a b. a ≢ b) (cond b all (stand_ins 0 all))
    by_test true e = distinct_apart all (and_parts (list_all is_name all) (are_distinct all) e).1
    by_test false e = stand_ins_apart all few

-- ---- the same limits

module _ (a : Lists) (found : StructNames) (all : List Bytes) (s : Listed) (is : IsListed a found all s) (good : IsGood a.table) where
  apart_there : AllPairs (λ x y. x ≢ y) (names s.types)
  apart_there = subst (AllPairs (λ x y. x ≢ y)) (sym is.called_so) (called_apart all is.few)

  pub structs_are : length a.table.structs ≡ length s.types.structs
  structs_are = sym (length-map a.table.structs (λ x. x.1)) ∙ (ap length is.bodies_are ∙ length-map s.types.structs (λ x. x.1))

  from_zero : (n : ℕ) → n ≡ 0 + n
  from_zero n = omega arith

  -- one type more fits the arena's table exactly where it fits that of the definition
  pub type_fits : (ty : IrType) → Knows (length a.table.types) (length a.table.structs) ty → all_fit (with_type a.table ty) ≡ all_fit (with_type s.types ty)
  type_fits ty k =
      ap (list_all is_within_limits) (same_shapes (with_type a.table ty) (with_type s.types ty) (ap (λ (l : List IrType). l ++ ty ∷ []) is.types) is.bodies_are
      (AllKnown-push 0 (length a.table.structs) a.table.types ty good.known (subst (λ n. Knows n (length a.table.structs) ty) (from_zero (length a.table.types)) k)) good.distinct apart_there)

  -- and so does one body more
  pub body_fits : (id : ℕ) (body : StructBody) → all_fit (with_body a.table id body) ≡ all_fit (with_body s.types id body)
  body_fits id body =
      ap (list_all is_within_limits) (same_shapes (with_body a.table id body) (with_body s.types id body) is.types
      (bodies-defined a.table id body ∙ (ap (λ (l : List (Option StructBody)). set l id (Some body)) is.bodies_are ∙ sym (bodies-defined s.types id body)))
      (subst (λ n. AllKnown 0 n a.table.types) (sym (as_many a.table)) good.known)
      (subst (AllPairs (λ x y. x ≢ y)) (sym (names-defined a.table id body)) good.distinct)
      (subst (AllPairs (λ x y. x ≢ y)) (sym (names-defined s.types id body)) apart_there))
    where
      as_many : (t : Types) → length (with_body t id body).structs ≡ length t.structs
      as_many t = sym (length-map (with_body t id body).structs (λ x. x.0)) ∙ (ap length (names-defined t id body) ∙ length-map t.structs (λ x. x.0))
