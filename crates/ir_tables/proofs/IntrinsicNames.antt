-- A name read front by front; and no name is one of two intrinsics.
use Rattle.std.proofs.Common.{◌≡◌, ℕ, ◌-◌, ◌↔◌, ◌⊎◌, inl, inr, Bool, true, false, not, ◌&&◌, nat_eq, List, [], ◌∷◌, ◌++◌, Option, Some, None, refl, ap, sym, ◌∙◌, subst, codes, slice_get, length, ◌<◌, ◌≤◌, arith}
use Rattle.std.specs.List.{list_any}
use Rattle.std.specs.Fmt.{decimal}
use Rattle.std.proofs.lemmas.List.{append_cancel_left, append_assoc}
use Rattle.std.proofs.lemmas.Option.{slice_get_within}
use Rattle.std.proofs.lemmas.Bool.{cases_eq, eq-eqb, ne_eqb}
use Rattle.std.proofs.lemmas.Map.Keys.{any_passes_from_place}
use Rattle.ir_tables.specs.declared.intrinsic.Intrinsic.{Intrinsic}
use Rattle.ir_tables.specs.declared.intrinsic.Intrinsic.TheVariants.{Ctpop, Bswap, Bitreverse, Ctlz, Cttz, Abs, Smin, Smax, Umin, Umax, SaddSat, UaddSat, SsubSat, UsubSat, SaddWithOverflow, UaddWithOverflow, SsubWithOverflow, UsubWithOverflow, SmulWithOverflow, UmulWithOverflow, Fshl, Fshr}
use Rattle.ir_tables.specs.Intrinsic.{intrinsic_word, intrinsic_code, intrinsics}
use Rattle.ir_tables.specs.IntrinsicName.{IsNamed, IsWidthText, has_width, name_front}
use Rattle.ir_tables.proofs.IntrinsicValues.{intrinsic_listed}

-- what was found behind the front of these bytes
abbrev pub IsBehind : List ℕ → List ℕ → Option (List ℕ) → Type 0
IsBehind bytes front found = (tail : List ℕ) → (found ≡ Some tail) ↔ (bytes ≡ front ++ tail)

-- what was read of these digits
abbrev pub IsReadAs : List ℕ → Option ℕ → Type 0
IsReadAs digits found = (width : ℕ) → (found ≡ Some width) ↔ IsWidthText width digits

-- what is told of the name
abbrev pub IsToldOf : Intrinsic → List ℕ → Option ℕ → Type 0
IsToldOf which name told = (width : ℕ) → (told ≡ Some width) ↔ IsNamed which width name

no_name : (which : Intrinsic) (name : List ℕ) (told : Option ℕ) → told ≡ None → ((width : ℕ) → IsNamed which width name → ⊥) → IsToldOf which name told
no_name which name told none other = λ width. (λ found. absurd (cc), λ named. absurd (other width named))

behind_front : (which : Intrinsic) (digits : List ℕ) → name_front which ++ digits ≡ codes "llvm." ++ (intrinsic_word which ++ (codes ".i" ++ digits))
behind_front which digits = ap (λ (l : List ℕ). codes "llvm." ++ l) (append_assoc (intrinsic_word which) (codes ".i") digits)

found_is : (bytes front stem tail : List ℕ) → IsBehind bytes front (Some stem) → bytes ≡ front ++ tail → stem ≡ tail
found_is bytes front stem tail b e = let s : Some stem ≡ Some tail = (b tail).1 e in cc

-- the same front by another name
pub at_word : (bytes word other : List ℕ) (found : Option (List ℕ)) → word ≡ other → IsBehind bytes word found → IsBehind bytes other found
at_word bytes word other found e b = subst (λ front. IsBehind bytes front found) e b

pub without_start : (which : Intrinsic) (name : List ℕ) (told : Option ℕ) → told ≡ None → IsBehind name (codes "llvm.") None → IsToldOf which name told
without_start which name told none b =
    no_name which name told none (λ width named. let e : None ≡ Some (intrinsic_word which ++ (codes ".i" ++ decimal width)) = (b _).1 (named.named ∙ behind_front which (decimal width)) in absurd (cc))

pub without_word : (which : Intrinsic) (name stem : List ℕ) (told : Option ℕ) → told ≡ None → IsBehind name (codes "llvm.") (Some stem) → IsBehind stem (intrinsic_word which) None → IsToldOf which name told
without_word which name stem told none a b =
    no_name which name told none
    (λ width named.
    let s = found_is name (codes "llvm.") stem _ a (named.named ∙ behind_front which (decimal width)) in
    let e : None ≡ Some (codes ".i" ++ decimal width) = (b _).1 s in
    absurd (cc))

pub without_dot : (which : Intrinsic) (name stem suffix : List ℕ) (told : Option ℕ) → told ≡ None → IsBehind name (codes "llvm.") (Some stem) → IsBehind stem (intrinsic_word which) (Some suffix) → IsBehind suffix (codes ".i") None → IsToldOf which name told
without_dot which name stem suffix told none a b d =
    no_name which name told none
    (λ width named.
    let s = found_is name (codes "llvm.") stem _ a (named.named ∙ behind_front which (decimal width)) in
    let t = found_is stem (intrinsic_word which) suffix _ b s in
    let e : None ≡ Some (decimal width) = (d _).1 t in
    absurd (cc))

digits_are : (which : Intrinsic) (name stem suffix digits : List ℕ) (width : ℕ) → IsBehind name (codes "llvm.") (Some stem) → IsBehind stem (intrinsic_word which) (Some suffix) → IsBehind suffix (codes ".i") (Some digits) → IsNamed which width name → IsWidthText width digits
digits_are which name stem suffix digits width a b d named =
    let s = found_is name (codes "llvm.") stem _ a (named.named ∙ behind_front which (decimal width)) in
    let t = found_is stem (intrinsic_word which) suffix _ b s in
    record { some = named.some; most = named.most; written = found_is suffix (codes ".i") digits _ d t }

pub without_width : (which : Intrinsic) (name stem suffix digits : List ℕ) (told : Option ℕ) → told ≡ None → IsBehind name (codes "llvm.") (Some stem) → IsBehind stem (intrinsic_word which) (Some suffix) → IsBehind suffix (codes ".i") (Some digits) → IsReadAs digits None → IsToldOf which name told
without_width which name stem suffix digits told none a b d read =
    no_name which name told none (λ width named. let e : None ≡ Some width = (read width).1 (digits_are which name stem suffix digits width a b d named) in absurd (cc))

pub with_other_width : (which : Intrinsic) (name stem suffix digits : List ℕ) (width : ℕ) (has : Bool) → IsBehind name (codes "llvm.") (Some stem) → IsBehind stem (intrinsic_word which) (Some suffix) → IsBehind suffix (codes ".i") (Some digits) → IsReadAs digits (Some width) → has ≡ has_width which width → has ≡ false → IsToldOf which name None
with_other_width which name stem suffix digits width has a b d read h f =
    no_name which name None refl
    (λ other named.
    let e : Some width ≡ Some other = (read other).1 (digits_are which name stem suffix digits other a b d named) in
    let same : width ≡ other = cc in
    let whole : has_width which other ≡ true = named.whole in
    let t : has_width which width ≡ true = ap (has_width which) same ∙ whole in
    absurd (cc))

pub with_width : (which : Intrinsic) (name stem suffix digits : List ℕ) (width : ℕ) (has : Bool) → IsBehind name (codes "llvm.") (Some stem) → IsBehind stem (intrinsic_word which) (Some suffix) → IsBehind suffix (codes ".i") (Some digits) → IsReadAs digits (Some width) → has ≡ has_width which width → has ≡ true → IsToldOf which name (Some width)
with_width which name stem suffix digits width has a b d read h t =
    λ other. (
      λ found.
          let text = (read other).0 found in
          let same : width ≡ other = cc in
          let whole : has_width which width ≡ true = sym h ∙ t in
          let x : name ≡ codes "llvm." ++ stem = (a stem).0 refl in
          let y : stem ≡ intrinsic_word which ++ suffix = (b suffix).0 refl in
          let z : suffix ≡ codes ".i" ++ digits = (d digits).0 refl in
          record {
            some = text.some;
            most = text.most;
            whole = ap (has_width which) (sym same) ∙ whole;
            named = x ∙ ap (λ (l : List ℕ). codes "llvm." ++ l) (y ∙ ap (λ (l : List ℕ). intrinsic_word which ++ l) z) ∙ sym (behind_front which digits) ∙ ap (λ (l : List ℕ). name_front which ++ l) text.written;
          },
      λ named. (read other).1 (digits_are which name stem suffix digits other a b d named),
    )

-- the first list is a front of the second
abbrev begins : List ℕ → List ℕ → Bool
begins [] bytes = true
begins (first ∷ front) [] = false
begins (first ∷ front) (byte ∷ bytes) = nat_eq first byte && begins front bytes

one_begins : (a b x y : List ℕ) → a ++ x ≡ b ++ y → (begins a b ≡ true) ⊎ (begins b a ≡ true)
one_begins [] b x y e = inl refl
one_begins (first ∷ a) [] x y e = inr refl
one_begins (first ∷ a) (second ∷ b) x y e =
    let same : first ≡ second = cc in
    let rest : a ++ x ≡ b ++ y = cc in
    let t = eq-eqb first second same in
    let u = eq-eqb second first (sym same) in
    elim (one_begins a b x y rest) [ inl l ↦ inl (rw t l) | inr r ↦ inr (rw u r) ]

abbrev is_front_of_other : Intrinsic → Intrinsic → Bool
is_front_of_other a b = begins (intrinsic_word a ++ codes ".i") (intrinsic_word b ++ codes ".i") && not (nat_eq (intrinsic_code a) (intrinsic_code b))

none_is : list_any (λ a. list_any (λ b. is_front_of_other a b) intrinsics) intrinsics ≡ false
none_is = refl

intrinsic_at : ℕ → Option Intrinsic
intrinsic_at code = slice_get intrinsics (code - 1)

intrinsic_at_code : (which : Intrinsic) → intrinsic_at (intrinsic_code which) ≡ Some which
unfolding intrinsic_at
intrinsic_at_code Ctpop = refl
intrinsic_at_code Bswap = refl
intrinsic_at_code Bitreverse = refl
intrinsic_at_code Ctlz = refl
intrinsic_at_code Cttz = refl
intrinsic_at_code Abs = refl
intrinsic_at_code Smin = refl
intrinsic_at_code Smax = refl
intrinsic_at_code Umin = refl
intrinsic_at_code Umax = refl
intrinsic_at_code SaddSat = refl
intrinsic_at_code UaddSat = refl
intrinsic_at_code SsubSat = refl
intrinsic_at_code UsubSat = refl
intrinsic_at_code SaddWithOverflow = refl
intrinsic_at_code UaddWithOverflow = refl
intrinsic_at_code SsubWithOverflow = refl
intrinsic_at_code UsubWithOverflow = refl
intrinsic_at_code SmulWithOverflow = refl
intrinsic_at_code UmulWithOverflow = refl
intrinsic_at_code Fshl = refl
intrinsic_at_code Fshr = refl

same_code : (a b : Intrinsic) → intrinsic_code a ≡ intrinsic_code b → a ≡ b
same_code a b e = let x = intrinsic_at_code a in let y = intrinsic_at_code b in let z = ap intrinsic_at e in cc

same_front : (a b : Intrinsic) → begins (intrinsic_word a ++ codes ".i") (intrinsic_word b ++ codes ".i") ≡ true → a ≡ b
same_front a b begun =
    elim (cases_eq (intrinsic_code a) (intrinsic_code b)) [
      | inl e ↦ same_code a b e
      | inr other ↦
          let (i, at_i) = intrinsic_listed a in
          let (j, at_j) = intrinsic_listed b in
          let ne = ne_eqb (intrinsic_code a) (intrinsic_code b) other in
          let front : is_front_of_other a b ≡ true = rw (begun, ne) refl in
          let inner : list_any (λ b. is_front_of_other a b) intrinsics ≡ true = any_passes_from_place (λ b. is_front_of_other a b) intrinsics j b at_j front in
          let outer : list_any (λ a. list_any (λ b. is_front_of_other a b) intrinsics) intrinsics ≡ true = any_passes_from_place (λ a. list_any (λ b. is_front_of_other a b) intrinsics) intrinsics i a at_i inner in
          let none = none_is in
          absurd (cc)
    ]

-- a name is that of one intrinsic
pub one_intrinsic : (a b : Intrinsic) (v w : ℕ) (name : List ℕ) → IsNamed a v name → IsNamed b w name → a ≡ b
one_intrinsic a b v w name x y =
    let e : name_front a ++ decimal v ≡ name_front b ++ decimal w = sym x.named ∙ y.named in
    let f : (intrinsic_word a ++ codes ".i") ++ decimal v ≡ (intrinsic_word b ++ codes ".i") ++ decimal w = append_cancel_left (codes "llvm.") ((intrinsic_word a ++ codes ".i") ++ decimal v) ((intrinsic_word b ++ codes ".i") ++ decimal w) e in
    elim (one_begins (intrinsic_word a ++ codes ".i") (intrinsic_word b ++ codes ".i") (decimal v) (decimal w) f) [ inl l ↦ same_front a b l | inr r ↦ sym (same_front b a r) ]

-- the name is of none of so many first ones
abbrev pub IsNoneOf : ℕ → List ℕ → Type 0
IsNoneOf count name = (k : ℕ) → k < count → (which : Intrinsic) (width : ℕ) → slice_get intrinsics k ≡ Some which → IsNamed which width name → ⊥

abbrev pub pair : Intrinsic → ℕ → Option (Intrinsic × ℕ)
pair which width = Some (which, width)

abbrev IsNamedPair : List ℕ → Option (Intrinsic × ℕ) → Type 0
IsNamedPair name None = ⊥
IsNamedPair name (Some p) = IsNamed p.0 p.1 name

pub none_of_all : (count : ℕ) (name : List ℕ) → length intrinsics ≤ count → IsNoneOf count name → (which : Intrinsic) (width : ℕ) → (None ≡ pair which width) ↔ IsNamed which width name
none_of_all count name all none which width = (
  λ found. absurd (cc),
  λ named.
      let (k, here) = intrinsic_listed which in
      let within = slice_get_within intrinsics k which here in
      let below : k < count = omega (arith, within, all) in
      absurd (none k below which width here named),
)

pub none_here : (index : ℕ) (read : Intrinsic) (name : List ℕ) (told : Option ℕ) → told ≡ None → IsToldOf read name told → slice_get intrinsics index ≡ Some read → (which : Intrinsic) (width : ℕ) → slice_get intrinsics index ≡ Some which → IsNamed which width name → ⊥
none_here index read name told none is at which width here named =
    let same : which ≡ read = cc in
    let e : told ≡ Some width = (is width).1 (subst (λ w. IsNamed w width name) same named) in
    absurd (cc)

pub one_here : (read : Intrinsic) (width : ℕ) (name : List ℕ) → IsToldOf read name (Some width) → (which : Intrinsic) (other : ℕ) → (pair read width ≡ pair which other) ↔ IsNamed which other name
one_here read width name is which other =
    let mine : IsNamed read width name = (is width).0 refl in (
      λ found. subst (IsNamedPair name) found mine,
      λ named.
          let same : which ≡ read = one_intrinsic which read other width name named mine in
          let e : Some width ≡ Some other = (is other).1 (subst (λ w. IsNamed w other name) same named) in
          let f : width ≡ other = cc in
          ap (λ w. pair w width) (sym same) ∙ ap (pair which) f,
    )
