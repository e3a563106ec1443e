-- Constants that are read where no rule is broken are good ones.
use Rattle.std.proofs.Common.{◌≡◌, ◌≤◌, ◌+◌, ◌^◌, ◌*◌, ℕ, zero, suc, Bool, true, false, ◌&&◌, cond, List, [], ◌∷◌, ◌++◌, length, get_or, map, Option, Some, None, nat_lt, nat_eq, nat_le, bytes_eq, refl, sym, ap, subst, arith}
use Rattle.std.specs.Prelude.{find}
use Rattle.std.specs.List.{list_all, AllByRecursion}
use Rattle.std.proofs.lemmas.Bool.{and_parts, and_from, le-leb}
use Rattle.record_law.proofs.OnFormed.Lists.{all_both}
use Rattle.ir_tables.specs.declared.opcode.Opcode.{Opcode}
use Rattle.ir_tables.specs.declared.opcode.Opcode.TheVariants as op
use Rattle.ir_tables.specs.Opcode.{opcode_code}
use Rattle.type_table.specs.Tree.{Tree, int, ptr, void, array, struct, named, no_trees, more_trees, TreeBody, opaque_body, fields, Structs, body_of, index_of}
use Rattle.module_arena.specs.Constants.{Typed, constants_in, constants_of, is_bytes_of}
use Rattle.module_arena.specs.Forms.{are_flags_of, is_constant_binary, is_constant_cast, is_constant_of_phrase}
use Rattle.module_arena.specs.Module.{Bytes, Brackets, Constant, Integer, Null, Undef, Poison, ZeroInitializer, Address, ByteString, Aggregate, ElementAddress, Cast, Binary, Constants, more_constants, Module}
use Rattle.module_arena.specs.Names as arena
use Rattle.module_arena.specs.Same.{same_type}
use Rattle.module_arena.specs.TypeTests.{is_pointer}
use Rattle.module_arena.specs.WellFormed.{are_good_types, depth, greatest_depth, has_entry, is_good_body, is_good_constant, is_good_part, is_good_type, is_in_range, names_an_entry, type_in_constant}
use Rattle.record_table.specs.Walk.{Walk, going, stopped, ask, next}
use Rattle.record_table.specs.Fields.{Numbering, ty, global, text, flags}
use Rattle.record_table.specs.Constants.{ConstantForm, Number, NullPointer, Undefined, Poisoned, Zero, Global, Listed, Bytewise, Element, Converted, Computed, Parts, alike, these, no_parts, Reads, binary_opcode, body_parts, brackets_of, bytewise, cast_opcode, computed, converted, element, first_part, form_of_code, has_parts, integer, integer_at, later_parts, listed, of_form, one_of, parts, parts_of, read_nested, typed}
use Rattle.record_law.proofs.OnFormed.Ranges.{IsPlain, range_bytes, range_plain}
use Rattle.record_law.proofs.OnFormed.Tests.{each_passes}
use Rattle.record_law.proofs.OnFormed.Texts.{text_read}
use Rattle.record_law.proofs.OnFormed.Unbroken.{IsFine, IsRead, IsSound, asked_back, asked_sound, asking_read, coded_read, indexed_read, never_stopped, next_back, next_sound, number_read, stopped_sound, weaker_read}
use Rattle.record_law.proofs.OnFormed.Good.{IsOf}

-- ---- what is asked of one constant

-- it nests at most so deep, of good parts
pub record IsConst (m : Module) (most : ℕ) (t : Tree) (c : Constant) : Type 0 where
  pub deep : depth c ≤ most
  pub parts_good : list_all (is_good_part m) (constants_in t c) ≡ true

-- the same of constants with their types
pub record AreConsts (m : Module) (most : ℕ) (cs : Constants) : Type 0 where
  pub deep : greatest_depth cs ≤ most
  pub parts_good : list_all (is_good_part m) (constants_of cs) ≡ true

-- one part of a constant
part_good : (m : Module) (t : Tree) (c : Constant) → is_good_type m.structs t ≡ true → list_all (is_good_type m.structs) (type_in_constant c) ≡ true → is_in_range t c ≡ true
    → is_constant_of_phrase c ≡ true → names_an_entry m c ≡ true → is_good_part m (t, c) ≡ true
part_good m t c good types range phrase entry =
    and_from (is_good_type m.structs t) _ good
    (and_from (list_all (is_good_type m.structs) (type_in_constant c)) _ types
    (and_from (is_in_range t c) _ range (and_from (is_constant_of_phrase c) (names_an_entry m c) phrase entry)))

-- and the parts in it
with_parts : (m : Module) (t : Tree) (c : Constant) (inner : List Typed) → is_good_part m (t, c) ≡ true → list_all (is_good_part m) inner ≡ true → list_all (is_good_part m) ((t, c) ∷ inner) ≡ true
with_parts m t c inner here there = and_from (is_good_part m (t, c)) (list_all (is_good_part m) inner) here there

more_are : (m : Module) (most : ℕ) (t : Tree) (c : Constant) (cs : Constants) → IsConst m most t c → AreConsts m most cs → AreConsts m most (more_constants t c cs)
more_are m most t c cs one others =
    let a = one.deep in
    let b = others.deep in
    record { deep = omega arith; parts_good = all_both (is_good_part m) (constants_in t c) (constants_of cs) one.parts_good others.parts_good }

-- what is found is one of these
pub find_in : {A : Type 0} (P : A → Type 0) (test : A → Bool) (xs : List A) → AllByRecursion P xs → (x : A) → find test xs ≡ Some x → P x
find_in P test [] each x e = absurd (cc)
find_in P test (y ∷ ys) each x e = by (test y) e (find_in P test ys each.1 x)
  where
    by : (b : Bool) → cond b (Some y) (find test ys) ≡ Some x → (find test ys ≡ Some x → P x) → P x
    by true e later = let same : y ≡ x = cc in subst P same each.0
    by false e later = later e

opcode_read : (P : Opcode → Type 0) (allowed : List Opcode) (other : Opcode) → AllByRecursion P allowed → IsRead P (one_of allowed other).read
opcode_read P allowed other each = coded_read P opcode_code (λ code. find (λ o. nat_eq (opcode_code o) code) allowed) other (λ n x e. find_in P (λ o. nat_eq (opcode_code o) n) allowed each x e)

cast_read : IsRead (λ o. is_constant_cast o ≡ true) cast_opcode.read
cast_read = opcode_read (λ o. is_constant_cast o ≡ true) (op.Trunc ∷ op.PtrToInt ∷ op.IntToPtr ∷ []) op.Trunc (refl, (refl, (refl, tt)))

binary_read : IsRead (λ o. is_constant_binary o ≡ true) binary_opcode.read
binary_read = opcode_read (λ o. is_constant_binary o ≡ true) (op.Add ∷ op.Sub ∷ op.Xor ∷ []) op.Xor (refl, (refl, (refl, tt)))

pub flags_read : (o : Opcode) → IsRead (λ f. are_flags_of o f ≡ true) (flags o).read
flags_read o = weaker_read (asking_read 3 (are_flags_of o) number_read) (λ f. are_flags_of o f ≡ true) (λ f h. h.1)

or_default : {A : Type 0} (P : A → Type 0) (xs : List A) (d : A) (i : ℕ) → AllByRecursion P xs → P d → P (get_or xs i d)
or_default P [] d i each h = h
or_default P (x ∷ xs) d zero each h = each.0
or_default P (x ∷ xs) d (suc i) each h = or_default P xs d i each.1 h

module _ (m : Module) (k : Numbering) (of : IsOf m k) where
  -- a type that the module may write
  abbrev pub IsGood : Tree → Type 0
  IsGood t = is_good_type m.structs t ≡ true

  -- so of a good type
  abbrev pub ConstAt : ℕ → Tree → Constant → Type 0
  ConstAt most t c = IsGood t → IsConst m most t c

  pub ty_read : IsRead IsGood (ty k).read
  ty_read = indexed_read IsGood same_type k.types void (each_passes (is_good_type m.structs) k.types of.types_good)

  pub global_read : IsRead (λ g. has_entry m g ≡ true) (global k).read
  global_read = indexed_read (λ g. has_entry m g ≡ true) bytes_eq k.globals [] (each_passes (has_entry m) k.globals of.entries)

  -- ---- constants that hold none

  leaf : (most : ℕ) (t : Tree) (c : Constant) → depth c ≤ most → constants_in t c ≡ (t, c) ∷ [] → is_good_part m (t, c) ≡ true → IsConst m most t c
  leaf most t c deep alone good = record { deep = deep; parts_good = subst (λ (xs : List Typed). list_all (is_good_part m) xs ≡ true) (sym alone) (with_parts m t c [] good refl) }

  integer_back : (most : ℕ) (t : Tree) (w : Walk) → IsFine (integer t w).1 → IsFine w × ConstAt most t (integer t w).0
  unfolding integer
  integer_back most (int width) w h = by (nat_le width 64) h
    where
      number : (n : ℕ) → nat_lt n (2 ^ width) ≡ true → ConstAt most (int width) (Integer n)
      number n range good = leaf most (int width) (Integer n) (omega arith) refl (part_good m (int width) (Integer n) good refl range refl refl)

      by : (b : Bool) → IsFine (cond {A = Constant × Walk} b (integer_at width (next w).0 (next w).1) (integer_at width ((next w).0 + 2 ^ 64 * (next (next w).1).0) (next (next w).1).1)).1
          → IsFine w × ConstAt most (int width) (cond {A = Constant × Walk} b (integer_at width (next w).0 (next w).1) (integer_at width ((next w).0 + 2 ^ 64 * (next (next w).1).0) (next (next w).1).1)).0
      by true h = let a = asked_back 3 (nat_lt (next w).0 (2 ^ width)) (next w).1 h in (next_back w a.0, number (next w).0 a.1)
      by false h =
          let n = (next w).0 + 2 ^ 64 * (next (next w).1).0 in
          let a = asked_back 3 (nat_lt n (2 ^ width)) (next (next w).1).1 h in
          (next_back w (next_back (next w).1 a.0), number n a.1)
  integer_back most ptr w h = absurd (never_stopped 6 w h)
  integer_back most void w h = absurd (never_stopped 6 w h)
  integer_back most (array n t) w h = absurd (never_stopped 6 w h)
  integer_back most (struct packed ts) w h = absurd (never_stopped 6 w h)
  integer_back most (named name) w h = absurd (never_stopped 6 w h)

  integer_sound : (t : Tree) (w : Walk) → IsSound w → IsSound (integer t w).1
  unfolding integer
  integer_sound (int width) w s = by (nat_le width 64)
    where
      by : (b : Bool) → IsSound (cond {A = Constant × Walk} b (integer_at width (next w).0 (next w).1) (integer_at width ((next w).0 + 2 ^ 64 * (next (next w).1).0) (next (next w).1).1)).1
      by true = asked_sound 3 (nat_lt (next w).0 (2 ^ width)) (next w).1 (next_sound w s)
      by false = asked_sound 3 (nat_lt ((next w).0 + 2 ^ 64 * (next (next w).1).0) (2 ^ width)) (next (next w).1).1 (next_sound (next w).1 (next_sound w s))
  integer_sound ptr w s = stopped_sound 6 w s
  integer_sound void w s = stopped_sound 6 w s
  integer_sound (array n t) w s = stopped_sound 6 w s
  integer_sound (struct packed ts) w s = stopped_sound 6 w s
  integer_sound (named name) w s = stopped_sound 6 w s

  -- ---- parts of lists

  abbrev pub AreGoodParts : Parts → Type 0
  AreGoodParts (alike n t) = IsGood t
  AreGoodParts (these packed ts) = are_good_types m.structs ts ≡ true
  AreGoodParts no_parts = Unit {0}

  first_good : (ps : Parts) → AreGoodParts ps → IsGood (first_part ps)
  first_good (alike n t) g = g
  first_good (these packed no_trees) g = refl
  first_good (these packed (more_trees t ts)) g = (and_parts (is_good_type m.structs t) (are_good_types m.structs ts) g).0
  first_good no_parts g = refl

  later_good : (ps : Parts) → AreGoodParts ps → AreGoodParts (later_parts ps)
  later_good (alike n t) g = g
  later_good (these packed no_trees) g = refl
  later_good (these packed (more_trees t ts)) g = (and_parts (is_good_type m.structs t) (are_good_types m.structs ts) g).1
  later_good no_parts g = tt

  body_good : (b : TreeBody) → is_good_body m.structs b ≡ true → AreGoodParts (body_parts b)
  body_good opaque_body g = tt
  body_good (fields packed ts) g = g

  bodies_good : (ss : Structs) → list_all (λ s. is_good_body m.structs s.1 && is_good_type m.structs (named s.0)) ss ≡ true → AllByRecursion (λ b. is_good_body m.structs b ≡ true) (map (λ s. s.1) ss)
  bodies_good [] h = tt
  bodies_good (s ∷ ss) h =
      let p = and_parts (is_good_body m.structs s.1 && is_good_type m.structs (named s.0)) (list_all (λ s. is_good_body m.structs s.1 && is_good_type m.structs (named s.0)) ss) h in
      ((and_parts (is_good_body m.structs s.1) (is_good_type m.structs (named s.0)) p.0).0, bodies_good ss p.1)

  named_good : (name : Bytes) → AreGoodParts (body_parts (body_of k.structs name))
  named_good name =
      subst (λ (ss : Structs). AreGoodParts (body_parts (body_of ss name))) (sym of.structs_are)
      (body_good (body_of m.structs name)
      (or_default (λ b. is_good_body m.structs b ≡ true) (map (λ s. s.1) m.structs) opaque_body (index_of (map (λ s. s.0) m.structs) name) (bodies_good m.structs of.structs_good) refl))

  parts_good_of : (t : Tree) → IsGood t → AreGoodParts (parts_of k.structs t)
  parts_good_of (int width) g = tt
  parts_good_of ptr g = tt
  parts_good_of void g = tt
  parts_good_of (array n t) g = (and_parts (is_good_type m.structs t) _ g).0
  parts_good_of (struct packed ts) g = (and_parts (are_good_types m.structs ts) _ g).0
  parts_good_of (named name) g = named_good name

  -- ---- constants that hold others

  module _ (most : ℕ) (inner : Reads) (each : (t : Tree) → IsRead (ConstAt most t) (inner t)) where
    parts_back : (n : ℕ) (ps : Parts) (w : Walk) → IsFine (parts inner n ps w).1 → IsFine w × (AreGoodParts ps → AreConsts m most (parts inner n ps w).0)
    unfolding parts
    parts_back zero ps w h = (h, λ g. record { deep = omega arith; parts_good = refl })
    parts_back (suc n) ps (stopped broken) h = absurd h
    parts_back (suc n) ps (going rest broken) h =
        let c = inner (first_part ps) (going rest broken) in
        let later = parts_back n (later_parts ps) c.1 h in
        let here = (each (first_part ps)).back (going rest broken) later.0 in
        (here.0, λ g. more_are m most (first_part ps) c.0 (parts inner n (later_parts ps) c.1).0 (here.1 (first_good ps g)) (later.1 (later_good ps g)))

    parts_sound : (n : ℕ) (ps : Parts) (w : Walk) → IsSound w → IsSound (parts inner n ps w).1
    unfolding parts
    parts_sound zero ps w s = s
    parts_sound (suc n) ps (stopped broken) s = s
    parts_sound (suc n) ps (going rest broken) s = parts_sound n (later_parts ps) (inner (first_part ps) (going rest broken)).1 ((each (first_part ps)).sound (going rest broken) s)

    typed_back : (n : ℕ) (w : Walk) → IsFine (typed (ty k) inner n w).1 → IsFine w × AreConsts m most (typed (ty k) inner n w).0
    unfolding typed
    typed_back zero w h = (h, record { deep = omega arith; parts_good = refl })
    typed_back (suc n) (stopped broken) h = absurd h
    typed_back (suc n) (going rest broken) h =
        let t = (ty k).read (going rest broken) in
        let c = inner t.0 t.1 in
        let later = typed_back n c.1 h in
        let here = (each t.0).back t.1 later.0 in
        let front = ty_read.back (going rest broken) here.0 in
        (front.0, more_are m most t.0 c.0 (typed (ty k) inner n c.1).0 (here.1 front.1) later.1)

    typed_sound : (n : ℕ) (w : Walk) → IsSound w → IsSound (typed (ty k) inner n w).1
    unfolding typed
    typed_sound zero w s = s
    typed_sound (suc n) (stopped broken) s = s
    typed_sound (suc n) (going rest broken) s =
        let t = (ty k).read (going rest broken) in
        typed_sound n (inner t.0 t.1).1 ((each t.0).sound t.1 (ty_read.sound (going rest broken) s))

    listed_read : (t : Tree) → IsRead (ConstAt (suc most) t) (listed k inner t)
    listed_read t = record {
      back = λ w h.
          let ps = parts_of k.structs t in
          let n = next w in
          let v = ask 6 (has_parts ps n.0) n.1 in
          let r = parts_back n.0 ps v h in
          let a = asked_back 6 (has_parts ps n.0) n.1 r.0 in
          (next_back w a.0, λ g. list_is t (brackets_of ps) (parts inner n.0 ps v).0 g (r.1 (parts_good_of t g)));
      sound = λ w s.
          let ps = parts_of k.structs t in
          parts_sound (next w).0 ps (ask 6 (has_parts ps (next w).0) (next w).1) (asked_sound 6 (has_parts ps (next w).0) (next w).1 (next_sound w s));
    }
      where
        list_is : (t : Tree) (round : Brackets) (cs : Constants) → IsGood t → AreConsts m most cs → IsConst m (suc most) t (Aggregate round cs)
        list_is t round cs g are =
            let d = are.deep in
            record { deep = omega arith; parts_good = with_parts m t (Aggregate round cs) (constants_of cs) (part_good m t (Aggregate round cs) g refl (range_plain t (Aggregate round cs) tt) refl refl) are.parts_good }

    element_is : (t source : Tree) (f : ℕ) (base : Constant) (cs : Constants) → IsGood t → are_flags_of op.GetElementPtr f ≡ true → IsGood source → IsConst m most ptr base → AreConsts m most cs
        → IsConst m (suc most) t (ElementAddress f source (more_constants ptr base cs))
    element_is t source f base cs g set good one others =
        let all = more_are m most ptr base cs one others in
        let d = all.deep in
        let c = ElementAddress f source (more_constants ptr base cs) in
        record {
          deep = omega arith;
          parts_good = with_parts m t c (constants_of (more_constants ptr base cs))
              (part_good m t c g (and_from (is_good_type m.structs source) true good refl) (range_plain t c tt) (and_from (are_flags_of op.GetElementPtr f) true set refl) refl) all.parts_good;
        }

    element_read : (t : Tree) → IsRead (ConstAt (suc most) t) (element k inner t)
    element_read t = record {
      back = λ w h.
          let v = ask 6 (is_pointer t) w in
          let f = (flags op.GetElementPtr).read v in
          let source = (ty k).read f.1 in
          let base = inner ptr source.1 in
          let n = next base.1 in
          let cs = typed_back n.0 n.1 h in
          let b = (each ptr).back source.1 (next_back base.1 cs.0) in
          let s = ty_read.back f.1 b.0 in
          let g = (flags_read op.GetElementPtr).back v s.0 in
          let a = asked_back 6 (is_pointer t) w g.0 in
          (a.0, λ good. element_is t source.0 f.0 base.0 (typed (ty k) inner n.0 n.1).0 good g.1 s.1 (b.1 refl) cs.1);
      sound = λ w s.
          let v = ask 6 (is_pointer t) w in
          let f = (flags op.GetElementPtr).read v in
          let source = (ty k).read f.1 in
          let base = inner ptr source.1 in
          typed_sound (next base.1).0 (next base.1).1
          (next_sound base.1 ((each ptr).sound source.1 (ty_read.sound f.1 ((flags_read op.GetElementPtr).sound v (asked_sound 6 (is_pointer t) w s)))));
    }

    cast_is : (t from : Tree) (o : Opcode) (c : Constant) → IsGood t → is_constant_cast o ≡ true → IsConst m most from c → IsConst m (suc most) t (Cast o from c t)
    cast_is t from o c g cast one =
        let d = one.deep in
        let whole = Cast o from c t in
        record {
          deep = omega arith;
          parts_good = with_parts m t whole (constants_in from c) (part_good m t whole g (and_from (is_good_type m.structs t) true g refl) (range_plain t whole tt) cast refl) one.parts_good;
        }

    converted_read : (t : Tree) → IsRead (ConstAt (suc most) t) (converted k inner t)
    converted_read t = record {
      back = λ w h.
          let o = cast_opcode.read w in
          let from = (ty k).read o.1 in
          let c = (each from.0).back from.1 h in
          let f = ty_read.back o.1 c.0 in
          let p = cast_read.back w f.0 in
          (p.0, λ good. cast_is t from.0 o.0 (inner from.0 from.1).0 good p.1 (c.1 f.1));
      sound = λ w s.
          let o = cast_opcode.read w in
          let from = (ty k).read o.1 in
          (each from.0).sound from.1 (ty_read.sound o.1 (cast_read.sound w s));
    }

    binary_is : (t : Tree) (o : Opcode) (f : ℕ) (a b : Constant) → IsGood t → is_constant_binary o ≡ true → are_flags_of o f ≡ true → IsConst m most t a → IsConst m most t b
        → IsConst m (suc most) t (Binary o f t a t b)
    binary_is t o f a b g binary set one other =
        let d = one.deep in
        let e = other.deep in
        let whole = Binary o f t a t b in
        record {
          deep = omega arith;
          parts_good = with_parts m t whole (constants_in t a ++ constants_in t b)
              (part_good m t whole g refl (range_plain t whole tt) (and_from (is_constant_binary o) (are_flags_of o f) binary set) refl)
              (all_both (is_good_part m) (constants_in t a) (constants_in t b) one.parts_good other.parts_good);
        }

    computed_read : (t : Tree) → IsRead (ConstAt (suc most) t) (computed k inner t)
    computed_read t = record {
      back = λ w h.
          let o = binary_opcode.read w in
          let f = (flags o.0).read o.1 in
          let a = inner t f.1 in
          let q = (each t).back a.1 h in
          let p = (each t).back f.1 q.0 in
          let s = (flags_read o.0).back o.1 p.0 in
          let r = binary_read.back w s.0 in
          (r.0, λ good. binary_is t o.0 f.0 a.0 (inner t a.1).0 good r.1 s.1 (p.1 good) (q.1 good));
      sound = λ w s.
          let o = binary_opcode.read w in
          let f = (flags o.0).read o.1 in
          (each t).sound (inner t f.1).1 ((each t).sound f.1 ((flags_read o.0).sound o.1 (binary_read.sound w s)));
    }

  -- ---- any form

  bytewise_read : (most : ℕ) (t : Tree) → IsRead (ConstAt most t) (bytewise k t)
  bytewise_read most t = record {
    back = λ w h.
        let bytes = text.read w in
        let a = asked_back 6 (is_bytes_of (length bytes.0) t) bytes.1 h in
        let r = text_read.back w a.0 in
        (r.0, λ good. leaf most t (ByteString bytes.0) (omega arith) refl (part_good m t (ByteString bytes.0) good refl (range_bytes t bytes.0 r.1) refl refl));
    sound = λ w s. asked_sound 6 (is_bytes_of (length (text.read w).0) t) (text.read w).1 (text_read.sound w s);
  }

  -- the constants inside nest less deep
  abbrev pub IsInner : ℕ → Option Reads → Type 0
  IsInner most None = Unit {0}
  IsInner most (Some inner) = (less : ℕ) × (most ≡ suc less) × ((t : Tree) → IsRead (ConstAt less t) (inner t))

  plain_is : (most : ℕ) (t : Tree) (c : Constant) → IsPlain c → depth c ≤ most → constants_in t c ≡ (t, c) ∷ [] → type_in_constant c ≡ [] → is_constant_of_phrase c ≡ true → names_an_entry m c ≡ true → ConstAt most t c
  plain_is most t c plain deep alone none phrase entry good =
      leaf most t c deep alone (part_good m t c good (ap (λ (ts : List Tree). list_all (is_good_type m.structs) ts) none) (range_plain t c plain) phrase entry)

  -- a list or expression, by how those are read whose parts nest less deep
  nested_back : (most less : ℕ) (t : Tree) (one : Walk → Constant × Walk) → most ≡ suc less → IsRead (ConstAt (suc less) t) one → (w : Walk) → IsFine (one w).1 → IsFine w × ConstAt most t (one w).0
  nested_back most less t one same is w h = let r = is.back w h in (r.0, λ g. subst (λ n. IsConst m n t (one w).0) (sym same) (r.1 g))

  form_back : (most : ℕ) (inner : Option Reads) → IsInner most inner → (form : Option ConstantForm) (t : Tree) (w : Walk) → IsFine (of_form k inner form t w).1 → IsFine w × ConstAt most t (of_form k inner form t w).0
  unfolding of_form
  form_back most inner each None t w h = absurd (never_stopped 3 w h)
  form_back most inner each (Some Number) t w h = integer_back most t w h
  form_back most inner each (Some NullPointer) t w h = ((asked_back 6 (is_pointer t) w h).0, plain_is most t Null tt (omega arith) refl refl refl refl)
  form_back most inner each (Some Undefined) t w h = (h, plain_is most t Undef tt (omega arith) refl refl refl refl)
  form_back most inner each (Some Poisoned) t w h = (h, plain_is most t Poison tt (omega arith) refl refl refl refl)
  form_back most inner each (Some Zero) t w h = (h, plain_is most t ZeroInitializer tt (omega arith) refl refl refl refl)
  form_back most inner each (Some Global) t w h =
      let r = global_read.back (ask 6 (is_pointer t) w) h in
      ((asked_back 6 (is_pointer t) w r.0).0, plain_is most t (Address ((global k).read (ask 6 (is_pointer t) w)).0) tt (omega arith) refl refl refl r.1)
  form_back most None each (Some Listed) t w h = absurd (never_stopped 7 w h)
  form_back most (Some inner) each (Some Listed) t w h = nested_back most each.0 t (listed k inner t) each.1 (listed_read each.0 inner each.2 t) w h
  form_back most inner each (Some Bytewise) t w h = (bytewise_read most t).back w h
  form_back most None each (Some Element) t w h = absurd (never_stopped 7 w h)
  form_back most (Some inner) each (Some Element) t w h = nested_back most each.0 t (element k inner t) each.1 (element_read each.0 inner each.2 t) w h
  form_back most None each (Some Converted) t w h = absurd (never_stopped 7 w h)
  form_back most (Some inner) each (Some Converted) t w h = nested_back most each.0 t (converted k inner t) each.1 (converted_read each.0 inner each.2 t) w h
  form_back most None each (Some Computed) t w h = absurd (never_stopped 7 w h)
  form_back most (Some inner) each (Some Computed) t w h = nested_back most each.0 t (computed k inner t) each.1 (computed_read each.0 inner each.2 t) w h

  form_sound : (most : ℕ) (inner : Option Reads) → IsInner most inner → (form : Option ConstantForm) (t : Tree) (w : Walk) → IsSound w → IsSound (of_form k inner form t w).1
  unfolding of_form
  form_sound most inner each None t w s = stopped_sound 3 w s
  form_sound most inner each (Some Number) t w s = integer_sound t w s
  form_sound most inner each (Some NullPointer) t w s = asked_sound 6 (is_pointer t) w s
  form_sound most inner each (Some Undefined) t w s = s
  form_sound most inner each (Some Poisoned) t w s = s
  form_sound most inner each (Some Zero) t w s = s
  form_sound most inner each (Some Global) t w s = global_read.sound (ask 6 (is_pointer t) w) (asked_sound 6 (is_pointer t) w s)
  form_sound most None each (Some Listed) t w s = stopped_sound 7 w s
  form_sound most (Some inner) each (Some Listed) t w s = (listed_read each.0 inner each.2 t).sound w s
  form_sound most inner each (Some Bytewise) t w s = (bytewise_read most t).sound w s
  form_sound most None each (Some Element) t w s = stopped_sound 7 w s
  form_sound most (Some inner) each (Some Element) t w s = (element_read each.0 inner each.2 t).sound w s
  form_sound most None each (Some Converted) t w s = stopped_sound 7 w s
  form_sound most (Some inner) each (Some Converted) t w s = (converted_read each.0 inner each.2 t).sound w s
  form_sound most None each (Some Computed) t w s = stopped_sound 7 w s
  form_sound most (Some inner) each (Some Computed) t w s = (computed_read each.0 inner each.2 t).sound w s

  pub form_read : (most : ℕ) (inner : Option Reads) → IsInner most inner → (form : Option ConstantForm) (t : Tree) → IsRead (ConstAt most t) (of_form k inner form t)
  form_read most inner each form t = record { back = form_back most inner each form t; sound = form_sound most inner each form t }

  -- a constant in which lists and expressions nest so deep
  nested_read : (most : ℕ) (t : Tree) → IsRead (ConstAt most t) (read_nested k most t)
  unfolding read_nested
  nested_read zero t = record {
    back = λ w h. let r = (form_read 0 None tt (form_of_code (next w).0) t).back (next w).1 h in (next_back w r.0, r.1);
    sound = λ w s. (form_read 0 None tt (form_of_code (next w).0) t).sound (next w).1 (next_sound w s);
  }
  nested_read (suc deep) t = record {
    back = λ w h. let r = (form_read (suc deep) (Some (read_nested k deep)) (deep, refl, nested_read deep) (form_of_code (next w).0) t).back (next w).1 h in (next_back w r.0, r.1);
    sound = λ w s. (form_read (suc deep) (Some (read_nested k deep)) (deep, refl, nested_read deep) (form_of_code (next w).0) t).sound (next w).1 (next_sound w s);
  }

  -- a constant of a good type is a good one
  pub const_good : (t : Tree) (c : Constant) → IsConst m 64 t c → is_good_constant m (t, c) ≡ true
  const_good t c is = and_from (nat_le (depth c) 64) (list_all (is_good_part m) (constants_in t c)) (le-leb (depth c) 64 is.deep) is.parts_good

  pub inner_read : (t : Tree) → IsRead (ConstAt 63 t) (read_nested k 63 t)
  inner_read t = nested_read 63 t

  pub constant_read : (t : Tree) → IsRead (λ c. IsGood t → is_good_constant m (t, c) ≡ true) (read_nested k 64 t)
  constant_read t = weaker_read (nested_read 64 t) (λ c. IsGood t → is_good_constant m (t, c) ≡ true) (λ c h g. const_good t c (h g))
