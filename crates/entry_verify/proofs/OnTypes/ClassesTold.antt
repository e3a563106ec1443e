-- Two types have one class exactly where they are written alike.
use Rattle.std.proofs.Common.{◌≡◌, ℕ, zero, suc, ◌+◌, ◌<◌, ◌≤◌, ◌==◌, Bool, true, false, ◌&&◌, List, [], ◌∷◌, ◌++◌, map, length, get_or, slice_get, Option, Some, All, refl, sym, ap, ◌∙◌, subst, arith, cond, true≢false, bytes_eq}
use Rattle.std.specs.Bool.{beq}
use Rattle.std.specs.List.{IsDistinct, list_any}
use Rattle.std.specs.Cmp.{unsigned_Decides}
use Rattle.std.specs.Cmp.Lexicographic.{bytes_decides}
use Rattle.std.specs.Prelude.{AllPairs, ◌≢◌}
use Rattle.std.proofs.lemmas.Option.{same_Some, get_or_from_slice_get, slice_get_within}
use Rattle.std.proofs.lemmas.List.{get_or_append_left, length_push}
use Rattle.std.proofs.lemmas.List.Elements.{All-head, All-tail}
use Rattle.std.proofs.Common.{below_more}
use Rattle.std.proofs.Math.Seq.{get_or-append_seam}
use Rattle.std.proofs.lemmas.List.{length-map}
use Rattle.std.proofs.lemmas.Option.{none-some}
use Rattle.std.proofs.lemmas.Map.Keys.{apart_from_distinct}
use Rattle.std.proofs.lemmas.Bool.Decides.{same_from_decides}
use Rattle.type_table.specs.declared.ir_type.StructBody.{StructBody}
use Rattle.indexmap.specs.IndexSet.{insert_key}
use Rattle.type_table.specs.declared.ir_type.IrType.{IrType}
use Rattle.type_table.specs.declared.ir_type.IrType.TheVariants as type
use Rattle.type_table.specs.Keys.{ids_eq, type_eq, types_decide}
use Rattle.type_table.specs.Tree.{Tree, void}
use Rattle.type_table.specs.Types.{Types, IsGood, Knows, names, trees, trees_at, tree_of, tree}
use Rattle.type_table.proofs.Outlined.{tree-is, type_known}
use Rattle.type_table.proofs.Added.{All-below}
use Rattle.module_arena.specs.Same.{same_type, same_types}
use Rattle.entry_verify.specs.Types.Classes.{AreClasses, AreSlots, key_of}

pub neither : (i j : ℕ) → (i < j → ⊥) → (j < i → ⊥) → i ≡ j
neither i j less more = omega arith

index_clash : (ns : List (List ℕ)) (i j : ℕ) → AllPairs (λ a b. a ≢ b) ns → j < length ns → get_or ns i [] ≡ get_or ns j [] → i < j → ⊥
index_clash ns i j apart lj e lt = apart i j [] lt lj e

-- names that are the same stand at one place
index_same : (ns : List (List ℕ)) (i j : ℕ) → AllPairs (λ a b. a ≢ b) ns → i < length ns → j < length ns → get_or ns i [] ≡ get_or ns j [] → i ≡ j
index_same ns i j apart li lj e = neither i j (index_clash ns i j apart lj e) (index_clash ns j i apart li (sym e))

module _ (classes : List ℕ) (ns : List (List ℕ)) (done : List Tree) (bound : ℕ)
    (apart : AllPairs (λ a b. a ≢ b) ns)
    (agree : (a b : ℕ) → a < bound → b < bound → (get_or classes a 0 == get_or classes b 0) ≡ same_type (get_or done a void) (get_or done b void)) where
  lists_agree : (ps qs : List ℕ) → All (λ p. p < bound) ps → All (λ p. p < bound) qs
      → ids_eq (map (λ p. get_or classes p 0) ps) (map (λ p. get_or classes p 0) qs) ≡ same_types (trees_at done ps) (trees_at done qs)
  lists_agree [] [] kx ky = refl
  lists_agree [] (q ∷ qs) kx ky = refl
  lists_agree (p ∷ ps) [] kx ky = refl
  lists_agree (p ∷ ps) (q ∷ qs) kx ky =
      let P : ℕ → Type 0 = λ (x : ℕ). x < bound in
      λ j. agree p q (All-head P p ps kx) (All-head P q qs ky) j && lists_agree ps qs (All-tail P p ps kx) (All-tail P q qs ky) j

  -- one name is that of one struct
  names_agree : (id other : ℕ) → id < length ns → other < length ns → (id == other) ≡ bytes_eq (get_or ns id []) (get_or ns other [])
  names_agree id other kx ky = same_from_decides (id == other) (bytes_eq (get_or ns id []) (get_or ns other [])) (unsigned_Decides id other) (to, from)
    where
      to : bytes_eq (get_or ns id []) (get_or ns other []) ≡ true → id ≡ other
      to e = index_same ns id other apart kx ky ((bytes_decides (get_or ns id []) (get_or ns other [])).0 e)

      from : id ≡ other → bytes_eq (get_or ns id []) (get_or ns other []) ≡ true
      from e = (bytes_decides (get_or ns id []) (get_or ns other [])).1 (ap (λ i. get_or ns i []) e)

  pub key_same : (x y : IrType) → Knows bound (length ns) x → Knows bound (length ns) y → type_eq (key_of classes x) (key_of classes y) ≡ same_type (tree_of ns done x) (tree_of ns done y)
  key_same (type.Int w) (type.Int v) kx ky = refl
  key_same (type.Int w) type.Ptr kx ky = refl
  key_same (type.Int w) type.Void kx ky = refl
  key_same (type.Int w) (type.Array m q) kx ky = refl
  key_same (type.Int w) (type.Struct tight qs) kx ky = refl
  key_same (type.Int w) (type.Named other) kx ky = refl
  key_same type.Ptr (type.Int v) kx ky = refl
  key_same type.Ptr type.Ptr kx ky = refl
  key_same type.Ptr type.Void kx ky = refl
  key_same type.Ptr (type.Array m q) kx ky = refl
  key_same type.Ptr (type.Struct tight qs) kx ky = refl
  key_same type.Ptr (type.Named other) kx ky = refl
  key_same type.Void (type.Int v) kx ky = refl
  key_same type.Void type.Ptr kx ky = refl
  key_same type.Void type.Void kx ky = refl
  key_same type.Void (type.Array m q) kx ky = refl
  key_same type.Void (type.Struct tight qs) kx ky = refl
  key_same type.Void (type.Named other) kx ky = refl
  key_same (type.Array n p) (type.Int v) kx ky = refl
  key_same (type.Array n p) type.Ptr kx ky = refl
  key_same (type.Array n p) type.Void kx ky = refl
  key_same (type.Array n p) (type.Array m q) kx ky = ap (λ t. (n == m) && t) (agree p q kx ky)
  key_same (type.Array n p) (type.Struct tight qs) kx ky = refl
  key_same (type.Array n p) (type.Named other) kx ky = refl
  key_same (type.Struct packed ps) (type.Int v) kx ky = refl
  key_same (type.Struct packed ps) type.Ptr kx ky = refl
  key_same (type.Struct packed ps) type.Void kx ky = refl
  key_same (type.Struct packed ps) (type.Array m q) kx ky = refl
  key_same (type.Struct packed ps) (type.Struct tight qs) kx ky = ap (λ t. beq packed tight && t) (lists_agree ps qs kx ky)
  key_same (type.Struct packed ps) (type.Named other) kx ky = refl
  key_same (type.Named id) (type.Int v) kx ky = refl
  key_same (type.Named id) type.Ptr kx ky = refl
  key_same (type.Named id) type.Void kx ky = refl
  key_same (type.Named id) (type.Array m q) kx ky = refl
  key_same (type.Named id) (type.Struct tight qs) kx ky = refl
  key_same (type.Named id) (type.Named other) kx ky = names_agree id other kx ky

Knows-grown : (m n known : ℕ) (x : IrType) → m ≤ n → Knows m known x → Knows n known x
Knows-grown m n known (type.Int w) le k = k
Knows-grown m n known type.Ptr le k = tt
Knows-grown m n known type.Void le k = tt
Knows-grown m n known (type.Array length part) le k = omega (arith, k)
Knows-grown m n known (type.Struct packed parts) le k = All-below m n parts le k
Knows-grown m n known (type.Named id) le k = k

-- ---- keys in their places

place_clash : (keys : List IrType) (i j : ℕ) (x y : IrType) → IsDistinct type_eq keys → slice_get keys i ≡ Some x → slice_get keys j ≡ Some y → x ≡ y → i < j → ⊥
place_clash keys i j x y apart ex ey e lt =
    let within = slice_get_within keys j y ey in
    let differ = apart_from_distinct type_eq keys i j x apart lt within in
    let first = get_or_from_slice_get keys i x x ex in
    let second = get_or_from_slice_get keys j y x ey in
    true≢false (sym ((types_decide x y).1 e) ∙ (λ k. type_eq (sym first k) (sym second k)) ∙ differ)

one_place : (keys : List IrType) (i j : ℕ) (x y : IrType) → IsDistinct type_eq keys → slice_get keys i ≡ Some x → slice_get keys j ≡ Some y → x ≡ y → i ≡ j
one_place keys i j x y apart ex ey e =
    let less : i < j → ⊥ = place_clash keys i j x y apart ex ey e in
    let more : j < i → ⊥ = place_clash keys j i y x apart ey ex (sym e) in
    neither i j less more

module _ (t : Types) (good : IsGood t) (classes : List ℕ) (keys : List IrType) (told : AreSlots t classes keys (length t.types)) where
  one_class : (a b : ℕ) → a < length t.types → b < length t.types
      → (get_or classes a 0 == get_or classes b 0) ≡ type_eq (key_of classes (get_or t.types a type.Void)) (key_of classes (get_or t.types b type.Void))
  one_class a b la lb = same_from_decides (get_or classes a 0 == get_or classes b 0) (type_eq x y) (unsigned_Decides (get_or classes a 0) (get_or classes b 0)) (to, from)
    where
      x : IrType
      x = key_of classes (get_or t.types a type.Void)

      y : IrType
      y = key_of classes (get_or t.types b type.Void)

      to : type_eq x y ≡ true → get_or classes a 0 ≡ get_or classes b 0
      to e = one_place keys _ _ x y told.apart (told.slots a la) (told.slots b lb) ((types_decide x y).0 e)

      from : get_or classes a 0 ≡ get_or classes b 0 → type_eq x y ≡ true
      from e = (types_decide x y).1 (same_Some x y (sym (told.slots a la) ∙ ap (slice_get keys) e ∙ told.slots b lb))

  agree_below : (n : ℕ) → n ≤ length t.types → (a b : ℕ) → a < n → b < n → (get_or classes a 0 == get_or classes b 0) ≡ same_type (tree t a) (tree t b)
  agree_below zero le a b la lb = absurd (omega arith)
  agree_below (suc n) le a b la lb =
      let wa : a < length t.types = omega arith in
      let wb : b < length t.types = omega arith in
      let x = get_or t.types a type.Void in
      let y = get_or t.types b type.Void in
      let many = sym (length-map t.structs (λ (s : List ℕ × Option StructBody). s.0)) in
      let kx = subst (λ k. Knows n k x) many (Knows-grown a n (length t.structs) x (omega arith) (type_known t good a wa)) in
      let ky = subst (λ k. Knows n k y) many (Knows-grown b n (length t.structs) y (omega arith) (type_known t good b wb)) in
      one_class a b wa wb
      ∙ key_same classes (names t) (trees t) n good.distinct (agree_below n (omega arith)) x y kx ky
      ∙ (λ j. same_type (sym (tree-is t good a wa) j) (sym (tree-is t good b wb) j))

  pub classes_told : AreClasses t classes
  classes_told a b la lb = agree_below (length t.types) (omega arith) a b la lb

-- ---- one type more

got_more : (xs ys : List IrType) (n : ℕ) (x : IrType) → slice_get xs n ≡ Some x → slice_get (xs ++ ys) n ≡ Some x
got_more [] ys n x e = absurd (none-some x e)
got_more (y ∷ xs) ys zero x e = e
got_more (y ∷ xs) ys (suc n) x e = got_more xs ys n x e

got_kept : (keys : List IrType) (k : IrType) (n : ℕ) (x : IrType) → slice_get keys n ≡ Some x → slice_get (insert_key type_eq keys k) n ≡ Some x
got_kept keys k n x e = by (list_any (type_eq k) keys)
  where
    by : (b : Bool) → slice_get (cond b keys (keys ++ k ∷ [])) n ≡ Some x
    by true = e
    by false = got_more keys (k ∷ []) n x e

classes_kept : (classes : List ℕ) (c : ℕ) (ps : List ℕ) → All (λ p. p < length classes) ps → map (λ p. get_or (classes ++ c ∷ []) p 0) ps ≡ map (λ p. get_or classes p 0) ps
classes_kept classes c [] known = refl
classes_kept classes c (p ∷ ps) known =
    let P : ℕ → Type 0 = λ (x : ℕ). x < length classes in
    λ j. get_or_append_left classes (c ∷ []) 0 p (All-head P p ps known) j ∷ classes_kept classes c ps (All-tail P p ps known) j

key_kept : (classes : List ℕ) (c known : ℕ) (x : IrType) → Knows (length classes) known x → key_of (classes ++ c ∷ []) x ≡ key_of classes x
key_kept classes c known (type.Int w) k = refl
key_kept classes c known type.Ptr k = refl
key_kept classes c known type.Void k = refl
key_kept classes c known (type.Array length part) k = ap (type.Array length) (get_or_append_left classes (c ∷ []) 0 part k)
key_kept classes c known (type.Struct packed parts) k = ap (type.Struct packed) (classes_kept classes c parts k)
key_kept classes c known (type.Named id) k = refl

pub slots_next : (t : Types) → IsGood t → (classes : List ℕ) (keys more : List IrType) (i c : ℕ) (x key stored : IrType) → AreSlots t classes keys i
    → slice_get t.types i ≡ Some x → key ≡ key_of classes x → more ≡ insert_key type_eq keys key
    → slice_get more c ≡ Some stored → type_eq key stored ≡ true → IsDistinct type_eq more → AreSlots t (classes ++ c ∷ []) more (i + 1)
slots_next t good classes keys more i c x key stored told at is_key put found same apart =
    record { many = omega (arith, length_push classes c, told.many); apart = apart; slots = below_more (λ a. slice_get more (get_or (classes ++ c ∷ []) a 0) ≡ Some (key_of (classes ++ c ∷ []) (get_or t.types a type.Void))) i before here }
  where
    within : i < length t.types
    within = slice_get_within t.types i x at

    kept : (a : ℕ) → a ≤ i → key_of (classes ++ c ∷ []) (get_or t.types a type.Void) ≡ key_of classes (get_or t.types a type.Void)
    kept a le = key_kept classes c (length t.structs) (get_or t.types a type.Void)
        (subst (λ n. Knows n (length t.structs) (get_or t.types a type.Void)) (sym told.many) (Knows-grown a i (length t.structs) (get_or t.types a type.Void) le (type_known t good a (omega (arith, le, within)))))

    before : (a : ℕ) → a < i → slice_get more (get_or (classes ++ c ∷ []) a 0) ≡ Some (key_of (classes ++ c ∷ []) (get_or t.types a type.Void))
    before a lt =
        ap (slice_get more) (get_or_append_left classes (c ∷ []) 0 a (omega (arith, told.many)))
        ∙ ap (λ ks. slice_get ks (get_or classes a 0)) put
        ∙ got_kept keys key (get_or classes a 0) (key_of classes (get_or t.types a type.Void)) (told.slots a lt)
        ∙ ap Some (sym (kept a (omega arith)))

    here : slice_get more (get_or (classes ++ c ∷ []) i 0) ≡ Some (key_of (classes ++ c ∷ []) (get_or t.types i type.Void))
    here =
        ap (slice_get more) (ap (λ n. get_or (classes ++ c ∷ []) n 0) (sym told.many) ∙ get_or-append_seam classes c [] 0)
        ∙ found
        ∙ ap Some (sym ((types_decide key stored).0 same) ∙ is_key ∙ ap (key_of classes) (sym (get_or_from_slice_get t.types i x type.Void at)) ∙ sym (kept i (omega arith)))
