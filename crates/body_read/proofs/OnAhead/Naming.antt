-- The names of parameters as a loop reads them.
use Rattle.std.proofs.Common.{◌≡◌, ◌⊎◌, ◌<◌, ◌+◌, ◌-◌, ℕ, zero, suc, true, false, List, [], ◌∷◌, ◌++◌, Option, Some, None, map, refl, sym, ap, subst, ◌∙◌, arith, append_assoc, append-nil}
use Rattle.std.specs.Prelude.{is_some}
use Rattle.std.proofs.lemmas.List.{map-append}
use Rattle.module_arena.specs.declared.entry.LocalName as the_local
use Rattle.module_arena.specs.Module.{LocalName}
use Rattle.module_arena.specs.View.{local_view}
use Rattle.record_table.specs.Bodies.{labels_by, parameters}
use Rattle.record_table.specs.Fields.{after, label}
use Rattle.record_table.specs.Layout.{judged}
use Rattle.record_table.specs.Walk.{Walk, going, stopped, told}
use Rattle.record_read.specs.declared.texts.Texts as the_texts
use Rattle.record_read.specs.Fields.{IsLocal, texts_of}
use Rattle.record_read.specs.Reader.{Reader, ReadsAs, IsBroken, is_stopped}
use Rattle.body_read.proofs.OnNames.Tame.{label_broken}
use Rattle.body_read.proofs.OnNames.Running.{step_by, over_by}
use Rattle.body_read.specs.Ahead.Ahead.{AreNamesOf}

told_broken : (w : Walk) → IsBroken w → told w ≡ None → ⊥
told_broken (going [] None) h e = cc
told_broken (going [] (Some r)) h e = cc
told_broken (going (n ∷ rest) None) h e = cc
told_broken (going (n ∷ rest) (Some r)) h e = cc
told_broken (stopped None) h e = cc
told_broken (stopped (Some r)) h e = cc

names_broken : (x : the_texts.Texts) (n own : ℕ) (w : Walk) → IsBroken w → IsBroken (labels_by (texts_of x) own n w).1
unfolding labels_by
names_broken x zero own w h = h
names_broken x (suc n) own (stopped broken) h = h
names_broken x (suc n) own (going rest broken) h = let v = (label (texts_of x) own).read (going rest broken) in names_broken x n (after own v.0) v.1 (label_broken x own (going rest broken) h)

-- these names so far, and others to come
pub record IsNaming (x : the_texts.Texts) (first now : Reader) (count place own : ℕ) (names : List the_local.LocalName) : Type 0 where
  pub values : (labels_by (texts_of x) 0 count first.walk).0 ≡ map local_view names ++ (labels_by (texts_of x) own (count - place) now.walk).0
  pub walk : (labels_by (texts_of x) 0 count first.walk).1 ≡ (labels_by (texts_of x) own (count - place) now.walk).1
  pub spent : now.spent ≡ first.spent
  pub left : now.left ≡ first.left

pub none_named : (x : the_texts.Texts) (first : Reader) (count : ℕ) (names : List the_local.LocalName) → names ≡ [] → IsNaming x first first count 0 0 names
none_named x first count names none = subst (IsNaming x first first count 0 0) (sym none) (record {
  values = ap (λ n. (labels_by (texts_of x) 0 n first.walk).0) whole;
  walk = ap (λ n. (labels_by (texts_of x) 0 n first.walk).1) whole;
  spent = refl;
  left = refl;
})
  where
    whole : count ≡ count - 0
    whole = omega arith

pub one_named : (x : the_texts.Texts) (first now new : Reader) (count place own next : ℕ) (names more : List the_local.LocalName) (name : the_local.LocalName) → IsNaming x first now count place own names → place < count → is_stopped now.walk ≡ false
    → ReadsAs IsLocal (label (texts_of x) own) now new (Some name) → next ≡ after own (local_view name) → more ≡ names ++ name ∷ [] → IsNaming x first new count (place + 1) next more
one_named x first now new count place own next names more name h less on reads next_is pushed =
    let t = texts_of x in
    let at : new.walk ≡ ((label t own).read now.walk).1 = ap (λ (q : Reader). q.walk) reads.reader in
    let v : local_view name ≡ ((label t own).read now.walk).0 = reads.kept in
    let step = step_by t own (count - place) (count - (place + 1)) now.walk (omega (arith, less)) on in
    let own_is : after own ((label t own).read now.walk).0 ≡ next = sym (next_is ∙ ap (after own) v) in
    record {
      values = h.values
          ∙ (ap (λ (r : List LocalName × Walk). map local_view names ++ r.0) step
          ∙ ((λ j. map local_view names ++ (sym v j ∷ (labels_by t (own_is j) (count - (place + 1)) (sym at j)).0))
          ∙ (sym (append_assoc (map local_view names) (local_view name ∷ []) (labels_by t next (count - (place + 1)) new.walk).0)
          ∙ ap (λ (xs : List LocalName). xs ++ (labels_by t next (count - (place + 1)) new.walk).0) (sym (ap (map local_view) pushed ∙ map-append local_view names (name ∷ []))))));
      walk = h.walk ∙ (ap (λ (r : List LocalName × Walk). r.1) step ∙ (λ j. (labels_by t (own_is j) (count - (place + 1)) (sym at j)).1));
      spent = ap (λ (q : Reader). q.spent) reads.reader ∙ h.spent;
      left = ap (λ (q : Reader). q.left) reads.reader ∙ h.left;
    }

-- a name that is none: its record breaks a rule
pub none_kept : (x : the_texts.Texts) (first now new : Reader) (count place own : ℕ) (names : List the_local.LocalName) (operands : List ℕ) → IsNaming x first now count place own names → place < count → is_stopped now.walk ≡ false
    → ReadsAs IsLocal (label (texts_of x) own) now new None → first.walk ≡ going operands None → AreNamesOf None (judged (parameters (texts_of x) count) operands)
none_kept x first now new count place own names operands h less on reads front e =
    let t = texts_of x in
    let at : new.walk ≡ ((label t own).read now.walk).1 = ap (λ (q : Reader). q.walk) reads.reader in
    let step = step_by t own (count - place) (count - (place + 1)) now.walk (omega (arith, less)) on in
    let broken : IsBroken ((label t own).read now.walk).1 = subst IsBroken at reads.kept in
    let last : IsBroken (labels_by t 0 count first.walk).1 =
    subst IsBroken (sym (h.walk ∙ ap (λ (r : List LocalName × Walk). r.1) step)) (names_broken x (count - (place + 1)) (after own ((label t own).read now.walk).0) ((label t own).read now.walk).1 broken) in
    told_broken (labels_by t 0 count (going operands None)).1 (subst (λ w. IsBroken (labels_by t 0 count w).1) front last) e

-- all of them: they are kept where no rule is told
pub all_kept : (x : the_texts.Texts) (first now : Reader) (count place own : ℕ) (names : List the_local.LocalName) (operands : List ℕ) (rule : Option ℕ) → IsNaming x first now count place own names → (count - place ≡ 0) ⊎ (is_stopped now.walk ≡ true)
    → rule ≡ told now.walk → first.walk ≡ going operands None → (is_some rule ≡ true → AreNamesOf None (judged (parameters (texts_of x) count) operands)) × (is_some rule ≡ false → AreNamesOf (Some names) (judged (parameters (texts_of x) count) operands))
all_kept x first now count place own names operands rule h last is front =
    let t = texts_of x in
    let over = over_by t own (count - place) now.walk last in
    let walk : (labels_by t 0 count (going operands None)).1 ≡ now.walk = ap (λ w. (labels_by t 0 count w).1) (sym front) ∙ (h.walk ∙ ap (λ (r : List LocalName × Walk). r.1) over) in
    let values : map local_view names ≡ (labels_by t 0 count (going operands None)).0 =
    sym (ap (λ w. (labels_by t 0 count w).0) (sym front) ∙ (h.values ∙ (ap (λ (r : List LocalName × Walk). map local_view names ++ r.0) over ∙ append-nil (map local_view names)))) in
    let told_is : rule ≡ told (labels_by t 0 count (going operands None)).1 = is ∙ ap told (sym walk) in (
      λ some e. by_some rule some (told_is ∙ e),
      λ none. (values, sym told_is ∙ by_none rule none),
    )
  where
    by_some : (o : Option ℕ) → is_some o ≡ true → o ≡ None → ⊥
    by_some None h e = cc
    by_some (Some r) h e = cc

    by_none : (o : Option ℕ) → is_some o ≡ false → o ≡ None
    by_none None h = refl
    by_none (Some r) h = absurd (cc)
