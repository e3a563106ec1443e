-- The fields of lines that are read where no rule is broken: values, blocks, alignments and indices.
use Rattle.std.proofs.Common.{◌≡◌, ◌<◌, ◌^◌, ℕ, zero, suc, true, List, [], ◌∷◌, length, get_or, Some, None, nat_lt, refl}
use Rattle.std.specs.Prelude.{◌==◌, not}
use Rattle.std.specs.List.{AllByRecursion}
use Rattle.std.proofs.lemmas.Bool.{ltb-true, or_left, or_right}
use Rattle.type_table.specs.Tree.{Tree}
use Rattle.module_arena.specs.Forms.{is_small_alignment}
use Rattle.module_arena.specs.Module.{LocalName, Numbered, Value, Local, Known, Operand, Incoming, Module}
use Rattle.module_arena.specs.Same.{has_local, same_local}
use Rattle.module_arena.specs.WellFormed.{is_good_constant, is_good_type}
use Rattle.module_arena.proofs.SameNames.{same_self}
use Rattle.ir_tables.specs.Predicate.{predicate_code, predicate_of_code}
use Rattle.ir_tables.specs.declared.predicate.Predicate.TheVariants.{Eq}
use Rattle.record_table.specs.Walk.{Walk, next}
use Rattle.record_table.specs.Fields.{Numbering, alignment, block, coded_alignments, index, local, predicate, truth, ty}
use Rattle.record_table.specs.Constants.{form_of_code, read_nested, value, value_by}
use Rattle.record_table.specs.Layout.{◌&>◌}
use Rattle.record_table.specs.Lines.{incoming, operand, typed_value}
use Rattle.record_law.proofs.OnFormed.Texts.{below_read}
use Rattle.record_law.proofs.OnFormed.Unbroken.{Any, IsFine, IsRead, IsSound, at_place, asking_read, behind_read, both_read, coded_read, indexed_read, mapped_read, next_back, next_sound, number_read}
use Rattle.record_law.proofs.OnFormed.Good.{IsOf}
use Rattle.record_law.proofs.OnFormed.Constants.{const_good, form_read, inner_read, ty_read}

pub truth_read : IsRead Any truth.read
truth_read = mapped_read (below_read 2) Any (λ n. not (n == 0)) (λ n h. tt)

pub index_read : IsRead (λ n. nat_lt n (2 ^ 32) ≡ true) index.read
index_read = below_read 0x1_0000_0000

pub predicate_read : IsRead Any predicate.read
predicate_read = coded_read Any predicate_code predicate_of_code Eq (λ n x e. tt)

all_small : AllByRecursion (λ a. is_small_alignment a ≡ true) coded_alignments
all_small = (refl, (refl, (refl, (refl, (refl, (refl, (refl, (refl, (refl, (refl, (refl, (refl, (refl, (refl, (refl, (refl, (refl, (refl, tt))))))))))))))))))

pub alignment_read : IsRead (λ a. is_small_alignment a ≡ true) alignment.read
alignment_read =
    mapped_read (asking_read 7 (λ n. nat_lt n (length coded_alignments)) number_read) (λ a. is_small_alignment a ≡ true) (λ n. get_or coded_alignments n None) (λ n h. at_place (λ a. is_small_alignment a ≡ true) coded_alignments None n all_small (less n h.1))
  where
    less : (n : ℕ) → nat_lt n (length coded_alignments) ≡ true → n < length coded_alignments
    less n h = ltb-true n (length coded_alignments) h

-- each of some names is one of all
has_more : (first : LocalName) (all names : List LocalName) → AllByRecursion (λ n. has_local all n ≡ true) names → AllByRecursion (λ n. has_local (first ∷ all) n ≡ true) names
has_more first all [] h = tt
has_more first all (n ∷ names) h = (or_right (same_local first n) (has_local all n) h.0, has_more first all names h.1)

pub has_each : (names : List LocalName) → AllByRecursion (λ n. has_local names n ≡ true) names
has_each [] = tt
has_each (n ∷ names) = (or_left (same_local n n) (has_local names n) (same_self n), has_more n names names (has_each names))

module _ (m : Module) (k : Numbering) (of : IsOf m k) where
  -- a value as it may stand at a type: a local of the body, or a good constant
  abbrev pub IsValue : Tree → Value → Type 0
  IsValue t (Local name) = has_local k.values name ≡ true
  IsValue t (Known c) = is_good_constant m (t, c) ≡ true

  -- an operand as a line may have it
  pub record IsOperand (o : Operand) : Type 0 where
    pub ty_good : is_good_type m.structs o.ty ≡ true
    pub value_good : IsValue o.ty o.value

  pub block_read : IsRead (λ b. has_local k.blocks b ≡ true) (block k).read
  block_read = indexed_read (λ b. has_local k.blocks b ≡ true) same_local k.blocks (Numbered 0) (has_each k.blocks)

  local_read : IsRead (λ b. has_local k.values b ≡ true) (local k).read
  local_read = indexed_read (λ b. has_local k.values b ≡ true) same_local k.values (Numbered 0) (has_each k.values)

  value_back : (t : Tree) (n : ℕ) (w : Walk) → IsFine (value_by k t n w).1 → IsFine w × (is_good_type m.structs t ≡ true → IsValue t (value_by k t n w).0)
  unfolding value_by
  value_back t zero w h = let r = local_read.back w h in (r.0, λ g. r.1)
  value_back t (suc code) w h =
      let r = (form_read m k of 64 (Some (read_nested k 63)) (63, refl, inner_read m k of) (form_of_code (suc code)) t).back w h in
      (r.0, λ g. const_good m k of t _ (r.1 g))

  value_sound : (t : Tree) (n : ℕ) (w : Walk) → IsSound w → IsSound (value_by k t n w).1
  unfolding value_by
  value_sound t zero w s = local_read.sound w s
  value_sound t (suc code) w s = (form_read m k of 64 (Some (read_nested k 63)) (63, refl, inner_read m k of) (form_of_code (suc code)) t).sound w s

  -- a value of that type
  pub value_read : (t : Tree) → IsRead (λ v. is_good_type m.structs t ≡ true → IsValue t v) (value k t).read
  value_read t = record {
    back = λ w h. let r = value_back t (next w).0 (next w).1 h in (next_back w r.0, r.1);
    sound = λ w s. value_sound t (next w).0 (next w).1 (next_sound w s);
  }

  -- the same behind its type
  pub typed_read : IsRead (λ (x : Tree × Value). (is_good_type m.structs x.0 ≡ true) × (is_good_type m.structs x.0 ≡ true → IsValue x.0 x.1)) (ty k &> λ t. value k t).read
  typed_read = behind_read (ty_read m k of) value_read

  pub typed_value_read : IsRead IsOperand (typed_value k).read
  typed_value_read = mapped_read typed_read IsOperand (λ (t, v). operand t v) (λ x h. record { ty_good = h.0; value_good = h.1 h.0 })

  -- an entry of a phi
  abbrev pub IsIncoming : Tree → Incoming → Type 0
  IsIncoming t i = (is_good_type m.structs t ≡ true → IsValue t i.value) × (has_local k.blocks i.block ≡ true)

  pub incoming_read : (t : Tree) → IsRead (IsIncoming t) (incoming k t).read
  incoming_read t = mapped_read (both_read (value_read t) block_read) (IsIncoming t) (λ (v, b). record { value = v; block = b }) (λ x h. h)
