-- What is gathered of the names of a function, name by name.
use Rattle.std.specs.Prelude.{◌≡◌, refl, ℕ, ◌+◌, ◌<◌, ◌≤◌, ◌^◌, ◌==◌, Bool, true, false, cond, nat_eq, ◌&&◌, ◌||◌, List, [], ◌∷◌, ◌++◌, length, map, bytes_eq, is_some, Option, Some, None, Result, Ok, Err, IfOk, OnOk}
use Rattle.std.proofs.Common.{ap, sym, subst, ◌∙◌, arith, append_assoc}
use Rattle.std.proofs.lemmas.Bool.{eqb-true, eqb-false, ne_eqb}
use Rattle.std.proofs.lemmas.List.{append-nil}
use Rattle.std.proofs.lemmas.List.Folds.{list_any-append}
use Rattle.std.proofs.lemmas.Slice.Eq.{bytes_eq-Decides}
use Rattle.indexmap.specs.IndexSet.{contains}
use Rattle.ir_base.specs.declared.place.Place.{Place}
use Rattle.ir_terminals.specs.declared.values.Local.TheVariants as locals
use Rattle.ir_terminals.specs.declared.values.PlacedName.{PlacedName}
use Rattle.ir_terminals.specs.Digits.{decimal, IsWritten}
use Rattle.module_arena.specs.Module.{Bytes, LocalName, Named, Numbered}
use Rattle.type_table.specs.Names.Entries.{value_of}
use Rattle.module_arena.specs.Same.{same_local}
use Rattle.name_rules.specs.Locals.{Locals, Announced, is_alike, is_there, known_as, next_behind, locals_from, next_after}
use Rattle.name_rules.specs.Spelled.{decimal as spelled_decimal}
use Rattle.name_rules.proofs.Told.{written_is_told}
use Rattle.type_judge.proofs.NamesGathered.{same_both}
use Rattle.name_judge.specs.declared.locals.local_names.LocalNames.{LocalNames}
use Rattle.name_judge.specs.declared.locals.kind_names.KindNames.{KindNames}
use Rattle.name_judge.specs.Locals.Names.{is_marked, AreNone, HoldsKind, HoldsNames, KindBrings, Brings, Announces, next_of}
use Rattle.name_judge.proofs.OnLocals.Marks.{no_mark, mark_more, marked_first, marked_last}

-- ---- truths

nothing_more : (a : Bool) → a ≡ (a || false)
nothing_more true = refl
nothing_more false = refl

another : (a x k : Bool) → x ≡ false → a ≡ (a || ((x && k) || false))
another true x k e = refl
another false true k e = absurd cc
another false false k e = refl

present : (a x k : Bool) → k ≡ true → cond x true a ≡ (a || ((x && k) || false))
present true true true e = refl
present true false true e = refl
present false true true e = refl
present false false true e = refl
present a x false e = absurd cc

-- a value, where blocks are asked for, and a block where values are
of_other : (a x k : Bool) → k ≡ false → a ≡ (a || ((x && k) || false))
of_other a x true e = absurd cc
of_other true true false e = refl
of_other true false false e = refl
of_other false true false e = refl
of_other false false false e = refl

either : (a x : Bool) → cond x true a ≡ (a || (x || false))
either true true = refl
either true false = refl
either false true = refl
either false false = refl

alike_self : (block : Bool) → is_alike block block ≡ true
alike_self true = refl
alike_self false = refl

twice : (a x : Bool) → (a || (x || false)) ≡ (a || (x || (x || false)))
twice true x = refl
twice false true = refl
twice false false = refl

pub more_apart : (a b : ℕ) → b < a → (a == b) ≡ false
more_apart a b h = by (a == b) refl
  where
    by : (x : Bool) → (a == b) ≡ x → x ≡ false
    by true e = let same = eqb-true a b e in absurd (omega (arith, h, same))
    by false e = refl

-- digits are the same where the numbers are
same_digits : (a b : ℕ) (ds es : Bytes) → IsWritten a ds → IsWritten b es → bytes_eq ds es ≡ (a == b)
same_digits a b ds es w v = by (bytes_eq ds es) refl (a == b) refl
  where
    by : (x : Bool) → bytes_eq ds es ≡ x → (y : Bool) → (a == b) ≡ y → x ≡ y
    by true e true q = refl
    by false e false q = refl
    by true e false q =
        let other = eqb-false a b q in
        let same : a ≡ b = sym w.value ∙ ap decimal ((bytes_eq-Decides ds es).0 e) ∙ v.value in
        absurd (omega (arith, other, same))
    by false e true q =
        let number = eqb-true a b q in
        let text : ds ≡ es = written_is_told a ds w ∙ ap spelled_decimal number ∙ sym (written_is_told b es v) in
        let r = (bytes_eq-Decides ds es).1 text in
        absurd cc

-- ---- names

-- one name more among all
there_more : (all more : Locals) (block : Bool) (q : LocalName) → is_there (all ++ more) block q ≡ (is_there all block q || is_there more block q)
there_more all more block q = list_any-append (λ local. same_local local.0 q && is_alike local.1 block) all more

some_there : (x : Bool) (place : Place) (o : Option Place) → is_some (cond x (Some place) o) ≡ cond x true (is_some o)
some_there true place o = refl
some_there false place o = refl

-- without names or marks
kind_none : (names : KindNames) (block : Bool) → AreNone names → HoldsKind [] names block []
kind_none names block e = record {
  named = λ q. ap (λ t. is_some (value_of t q)) e.named;
  small = λ n less. (λ j. cond (no_mark block j) true (e.small n j));
  large = λ n ds more w. e.large ds;
}

pub holds_none : (names : LocalNames) → names.marks.items ≡ [] → AreNone names.values → AreNone names.labels → HoldsNames names []
holds_none names e values labels = record {
  values = subst (λ (marks : List Bool). HoldsKind marks names.values false []) (sym e) (kind_none names.values false values);
  labels = subst (λ (marks : List Bool). HoldsKind marks names.labels true []) (sym e) (kind_none names.labels true labels);
}

-- one name more
pub named_brings : (old new : KindNames) (name : Bytes) (place : Place) → new.small ≡ old.small → new.large ≡ old.large
    → ((other : Bytes) → value_of new.named other ≡ cond (bytes_eq other name) (Some place) (value_of old.named other)) → KindBrings old new (Named name)
named_brings old new name place s l put = record {
  on_ = λ marks block all h.
      let one = (Named name, block) ∷ [] in
      record {
        named = λ q.
            ap is_some (put q) ∙ some_there (bytes_eq q name) place (value_of old.named q)
            ∙ (λ j. cond (same_both q name j) true (h.named q j))
            ∙ present (is_there all block (Named q)) (bytes_eq name q) (is_alike block block) (alike_self block) ∙ sym (there_more all one block (Named q));
        small = λ n less.
            ap (λ t. cond (is_marked marks block n) true (contains nat_eq t n)) s ∙ h.small n less
            ∙ nothing_more (is_there all block (Numbered n)) ∙ sym (there_more all one block (Numbered n));
        large = λ n ds more w. ap (λ t. contains bytes_eq t ds) l ∙ h.large n ds more w ∙ nothing_more (is_there all block (Numbered n)) ∙ sym (there_more all one block (Numbered n));
      };
}

-- one number below 2^64 more
pub small_brings : (old new : KindNames) (number : ℕ) → new.named ≡ old.named → new.large ≡ old.large → number < 2 ^ 64
    → ((other : ℕ) → contains nat_eq new.small other ≡ cond (nat_eq number other) true (contains nat_eq old.small other)) → KindBrings old new (Numbered number)
small_brings old new number s l low put = record {
  on_ = λ marks block all h.
      let one = (Numbered number, block) ∷ [] in
      record {
        named = λ q. ap (λ t. is_some (value_of t q)) s ∙ h.named q ∙ nothing_more (is_there all block (Named q)) ∙ sym (there_more all one block (Named q));
        small = λ n less.
            ap (λ (there : Bool). cond (is_marked marks block n) true there) (put n)
            ∙ marked_last (nat_eq number n) (is_marked marks block n) (contains nat_eq old.small n)
            ∙ (λ j. cond (nat_eq number n) true (h.small n less j))
            ∙ present (is_there all block (Numbered n)) (number == n) (is_alike block block) (alike_self block) ∙ sym (there_more all one block (Numbered n));
        large = λ n ds more w.
            ap (λ t. contains bytes_eq t ds) l ∙ h.large n ds more w
            ∙ another (is_there all block (Numbered n)) (number == n) (is_alike block block) (ne_eqb number n (λ same. omega (arith, low, more, same))) ∙ sym (there_more all one block (Numbered n));
      };
}

-- one larger number more
pub large_brings : (old new : KindNames) (number : ℕ) (digits : Bytes) → new.named ≡ old.named → new.small ≡ old.small → 2 ^ 64 ≤ number → IsWritten number digits
    → ((q : Bytes) → contains bytes_eq new.large q ≡ cond (bytes_eq digits q) true (contains bytes_eq old.large q)) → KindBrings old new (Numbered number)
large_brings old new number digits s l high v put = record {
  on_ = λ marks block all h.
      let one = (Numbered number, block) ∷ [] in
      record {
        named = λ q. ap (λ t. is_some (value_of t q)) s ∙ h.named q ∙ nothing_more (is_there all block (Named q)) ∙ sym (there_more all one block (Named q));
        small = λ n less.
            ap (λ t. cond (is_marked marks block n) true (contains nat_eq t n)) l ∙ h.small n less
            ∙ another (is_there all block (Numbered n)) (number == n) (is_alike block block) (more_apart number n (omega (arith, high, less))) ∙ sym (there_more all one block (Numbered n));
        large = λ n ds more w.
            put ds
            ∙ (λ j. cond (same_digits number n digits ds v w j) true (h.large n ds more w j))
            ∙ present (is_there all block (Numbered n)) (number == n) (is_alike block block) (alike_self block) ∙ sym (there_more all one block (Numbered n));
      };
}

-- what is a block is no value, and a value no block
other_kind : (marks : List Bool) (names : KindNames) (b block : Bool) (x : LocalName) (all : Locals) → is_alike b block ≡ false → HoldsKind marks names block all → HoldsKind marks names block (all ++ (x, b) ∷ [])
other_kind marks names b block x all e h = record {
  named = λ q. h.named q ∙ apart (Named q);
  small = λ n less. h.small n less ∙ apart (Numbered n);
  large = λ n ds more w. h.large n ds more w ∙ apart (Numbered n);
}
  where
    apart : (q : LocalName) → is_there all block q ≡ is_there (all ++ (x, b) ∷ []) block q
    apart q = of_other (is_there all block q) (same_local x q) (is_alike b block) e ∙ sym (there_more all ((x, b) ∷ []) block q)

-- one block more, or one value more
pub label_brings : (old new : LocalNames) (b : Bool) (x : LocalName) → b ≡ true → new.marks.items ≡ old.marks.items → new.values ≡ old.values → KindBrings old.labels new.labels x → Brings old new ((x, b) ∷ [])
label_brings old new b x e m v k = record {
  on_ = λ all h. record {
    values =
        subst (λ (marks : List Bool). HoldsKind marks new.values false (all ++ (x, b) ∷ [])) (sym m)
        (subst (λ (names : KindNames). HoldsKind old.marks.items names false (all ++ (x, b) ∷ [])) (sym v)
        (other_kind old.marks.items old.values b false x all (ap (λ kind. is_alike kind false) e) h.values));
    labels =
        subst (λ (marks : List Bool). HoldsKind marks new.labels true (all ++ (x, b) ∷ [])) (sym m)
        (subst (λ (kind : Bool). HoldsKind old.marks.items new.labels true (all ++ (x, kind) ∷ [])) (sym e) (k.on_ old.marks.items true all h.labels));
  };
}

pub value_brings : (old new : LocalNames) (b : Bool) (x : LocalName) → b ≡ false → new.marks.items ≡ old.marks.items → new.labels ≡ old.labels → KindBrings old.values new.values x → Brings old new ((x, b) ∷ [])
value_brings old new b x e m l k = record {
  on_ = λ all h. record {
    values =
        subst (λ (marks : List Bool). HoldsKind marks new.values false (all ++ (x, b) ∷ [])) (sym m)
        (subst (λ (kind : Bool). HoldsKind old.marks.items new.values false (all ++ (x, kind) ∷ [])) (sym e) (k.on_ old.marks.items false all h.values));
    labels =
        subst (λ (marks : List Bool). HoldsKind marks new.labels true (all ++ (x, b) ∷ [])) (sym m)
        (subst (λ (names : KindNames). HoldsKind old.marks.items names true (all ++ (x, b) ∷ [])) (sym l)
        (other_kind old.marks.items old.labels b true x all (ap (λ kind. is_alike kind true) e) h.labels));
  };
}

-- one mark more
kind_marked : (marks : List Bool) (names : KindNames) (b block : Bool) (next : ℕ) (all : Locals) → length marks ≡ next → next < 2 ^ 64 → HoldsKind marks names block all → HoldsKind (marks ++ b ∷ []) names block (all ++ (Numbered next, b) ∷ [])
kind_marked marks names b block next all long low h = record {
  named = λ q. h.named q ∙ nothing_more (is_there all block (Named q)) ∙ sym (there_more all one block (Named q));
  small = λ n less.
      ap (λ (marked : Bool). cond marked true (contains nat_eq names.small n)) (mark_more marks b block next n long)
      ∙ marked_first ((next == n) && is_alike b block) (is_marked marks block n) (contains nat_eq names.small n)
      ∙ (λ j. cond ((next == n) && is_alike b block) true (h.small n less j))
      ∙ either (is_there all block (Numbered n)) ((next == n) && is_alike b block) ∙ sym (there_more all one block (Numbered n));
  large = λ n ds more w.
      h.large n ds more w
      ∙ another (is_there all block (Numbered n)) (next == n) (is_alike b block) (ne_eqb next n (λ same. omega (arith, low, more, same))) ∙ sym (there_more all one block (Numbered n));
}
  where
    one : Locals
    one = (Numbered next, b) ∷ []

pub mark_brings : (old new : LocalNames) (b : Bool) → length old.marks.items ≡ next_of old → next_of old < 2 ^ 64 → new.marks.items ≡ old.marks.items ++ b ∷ [] → new.values ≡ old.values → new.labels ≡ old.labels → Brings old new ((Numbered (next_of old), b) ∷ [])
mark_brings old new b long low m v l = record {
  on_ = λ all h. record {
    values =
        subst (λ (marks : List Bool). HoldsKind marks new.values false (all ++ (Numbered (next_of old), b) ∷ [])) (sym m)
        (subst (λ (names : KindNames). HoldsKind (old.marks.items ++ b ∷ []) names false (all ++ (Numbered (next_of old), b) ∷ [])) (sym v)
        (kind_marked old.marks.items old.values b false (next_of old) all long low h.values));
    labels =
        subst (λ (marks : List Bool). HoldsKind marks new.labels true (all ++ (Numbered (next_of old), b) ∷ [])) (sym m)
        (subst (λ (names : KindNames). HoldsKind (old.marks.items ++ b ∷ []) names true (all ++ (Numbered (next_of old), b) ∷ [])) (sym l)
        (kind_marked old.marks.items old.labels b true (next_of old) all long low h.labels));
  };
}

pub brings_none : (names : LocalNames) → Brings names names []
brings_none names = record { on_ = λ all h. subst (λ (xs : Locals). HoldsNames names xs) (sym (append-nil all)) h }

-- first these, then those
pub brings_both : (old mid new : LocalNames) (xs ys : Locals) → Brings old mid xs → Brings mid new ys → Brings old new (xs ++ ys)
brings_both old mid new xs ys f g = record { on_ = λ all h. subst (λ (zs : Locals). HoldsNames new zs) (append_assoc all xs ys) (g.on_ (all ++ xs) (f.on_ all h)) }

-- a name that is told twice
pub brings_twice : (old new : LocalNames) (x : LocalName × Bool) → Brings old new (x ∷ []) → Brings old new (x ∷ x ∷ [])
brings_twice old new x f = record { on_ = λ all h. let g = f.on_ all h in record { values = kind all _ false g.values; labels = kind all _ true g.labels } }
  where
    kind : (all : Locals) (names : KindNames) (block : Bool) → HoldsKind new.marks.items names block (all ++ x ∷ []) → HoldsKind new.marks.items names block (all ++ x ∷ x ∷ [])
    kind all names block g =
        let same : (q : LocalName) → is_there (all ++ x ∷ []) block q ≡ is_there (all ++ x ∷ x ∷ []) block q = λ q.
        there_more all (x ∷ []) block q ∙ twice (is_there all block q) (same_local x.0 q && is_alike x.1 block) ∙ sym (there_more all (x ∷ x ∷ []) block q) in
        record {
          named = λ q. g.named q ∙ same (Named q);
          small = λ n less. g.small n less ∙ same (Numbered n);
          large = λ n ds more w. g.large n ds more w ∙ same (Numbered n);
        }

-- ---- what is announced

-- the names of two lists
locals-append : (next : ℕ) (xs ys : List Announced) → locals_from next (xs ++ ys) ≡ locals_from next xs ++ locals_from (next_after next xs) ys
locals-append next [] ys = refl
locals-append next (a ∷ xs) ys =
    ap (λ more. map (λ name. (name, a.0)) (known_as next a.1) ++ more) (locals-append (next_behind next a.1) xs ys)
    ∙ sym (append_assoc (map (λ name. (name, a.0)) (known_as next a.1)) (locals_from (next_behind next a.1) xs) (locals_from (next_after (next_behind next a.1) xs) ys))

next-append : (next : ℕ) (xs ys : List Announced) → next_after next (xs ++ ys) ≡ next_after (next_after next xs) ys
next-append next [] ys = refl
next-append next (a ∷ xs) ys = next-append (next_behind next a.1) xs ys

pub announces_none : (names : LocalNames) → Announces names names []
announces_none names = record { brings = brings_none names; behind = refl }

-- first these, then those
pub announces_both : (old mid new : LocalNames) (xs ys : List Announced) → Announces old mid xs → Announces mid new ys → Announces old new (xs ++ ys)
announces_both old mid new xs ys f g = record {
  brings =
      subst (λ (zs : Locals). Brings old new zs) (sym (locals-append (next_of old) xs ys))
      (brings_both old mid new _ _ f.brings (subst (λ n. Brings mid new (locals_from n ys)) f.behind g.brings));
  behind = g.behind ∙ ap (λ n. next_after n ys) f.behind ∙ sym (next-append (next_of old) xs ys);
}

-- all of a function
pub announces_all : (old new : LocalNames) (all : List Announced) → HoldsNames old [] → next_of old ≡ 0 → Announces old new all → HoldsNames new (locals_from 0 all)
announces_all old new all h e f = subst (λ n. HoldsNames new (locals_from n all)) e (f.brings.on_ [] h)

-- a number that came in turn is there
pub marked_there : (names : LocalNames) (all : Locals) (block : Bool) (number : ℕ) → HoldsNames names all → number < 2 ^ 64 → is_marked names.marks.items block number ≡ true → is_there all block (Numbered number) ≡ true
marked_there names all true number h low marked = sym (h.labels.small number low) ∙ ap (λ (m : Bool). cond m true (contains nat_eq names.labels.small number)) marked
marked_there names all false number h low marked = sym (h.values.small number low) ∙ ap (λ (m : Bool). cond m true (contains nat_eq names.values.small number)) marked

-- what is found for every list is found for this one
pub has_told : {E : Type 0} (names : LocalNames) (all : Locals) (block : Bool) (name : LocalName) (r : Result Bool E) → HoldsNames names all
    → IfOk r (λ has. (ls : Locals) → HoldsNames names ls → has ≡ is_there ls block name) → IfOk r (λ has. has ≡ is_there all block name)
has_told names all block name (Ok has) h told = told all h
has_told names all block name (Err e) h told = tt

-- what the blocks, or the values, have is had by all
pub kind_has : {E : Type 0} (names : LocalNames) (kind : KindNames) (block : Bool) (name : LocalName) (r : Result Bool E) → ((all : Locals) → HoldsNames names all → HoldsKind names.marks.items kind block all)
    → IfOk r (λ has. (all : Locals) → HoldsKind names.marks.items kind block all → has ≡ is_there all block name) → IfOk r (λ has. (all : Locals) → HoldsNames names all → has ≡ is_there all block name)
kind_has names kind block name (Ok has) of_ told = λ all h. told all (of_ all h)
kind_has names kind block name (Err e) of_ told = tt

-- what is put is announced
pub announces_unnamed : {E : Type 0} (old new : LocalNames) (block : Bool) (r : Result (Unit {0}) E) → OnOk r (Brings old new ((Numbered (next_of old), block) ∷ [])) → OnOk r (next_of new ≡ next_of old + 1)
    → OnOk r (Announces old new ((block, None) ∷ []))
announces_unnamed old new block (Ok u) put next = record { brings = put; behind = omega (arith, next) }
announces_unnamed old new block (Err e) put next = tt

pub announces_named : {E : Type 0} (old new : LocalNames) (block : Bool) (name : PlacedName) (r : Result (Unit {0}) E) → OnOk r (Brings old new ((Named name.name, block) ∷ [])) → next_of new ≡ next_of old
    → OnOk r (Announces old new ((block, Some (locals.Named name)) ∷ []))
announces_named old new block name (Ok u) put next = record { brings = brings_twice old new (Named name.name, block) put; behind = next }
announces_named old new block name (Err e) put next = tt

pub announces_numbered : {E : Type 0} (old new : LocalNames) (block : Bool) (number : ℕ) (place : Place) (r : Result (Unit {0}) E) → OnOk r (Brings old new ((Numbered (next_of old), block) ∷ (Numbered number, block) ∷ []))
    → OnOk r (next_of new ≡ next_of old + 1) → OnOk r (Announces old new ((block, Some (locals.Numbered number place)) ∷ []))
announces_numbered old new block number place (Ok u) put next = record { brings = put; behind = omega (arith, next) }
announces_numbered old new block number place (Err e) put next = tt
