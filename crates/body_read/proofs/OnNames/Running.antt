-- Names one behind the other: those so far, and whether they are new.
use Rattle.std.proofs.Common.{◌≡◌, ◌⊎◌, ◌<◌, ◌+◌, ◌-◌, ℕ, zero, suc, Bool, true, false, not, ◌&&◌, List, [], ◌∷◌, ◌++◌, Option, Some, None, inl, inr, refl, sym, ap, subst, ◌∙◌, arith, append_assoc, append-nil}
use Rattle.std.specs.Prelude.{◌||◌, bytes_eq, is_none}
use Rattle.std.specs.List.{list_any}
use Rattle.module_arena.specs.declared.entry.LocalName as the_local
use Rattle.module_arena.specs.Module.{Bytes, LocalName, Named, Numbered}
use Rattle.record_table.specs.Bodies.{after_all, are_new, labels_by, with_names}
use Rattle.record_table.specs.Fields.{Texts, after, label}
use Rattle.record_table.specs.Walk.{Walk, going, stopped}
use Rattle.record_read.specs.declared.texts.Texts as the_texts
use Rattle.record_read.specs.Fields.{IsLocal, texts_of}
use Rattle.record_read.specs.Reader.{Reader, IsKept, IsBrokenBy, is_broken, is_stopped}
use Rattle.body_read.specs.declared.names.called.BodyNames.{BodyNames}
use Rattle.body_read.specs.Names.Called.{AreCalled, AreNames, Calls, IsTame, ReadsCalled, ReadsNames, called_as}
use Rattle.body_read.proofs.OnNames.Tame.{label_broken, label_low, tame_label}

-- ---- lists of names

and_assoc : (a b c : Bool) → (a && (b && c)) ≡ ((a && b) && c)
and_assoc true b c = refl
and_assoc false b c = refl

new_append : (taken : List Bytes) (xs ys : List LocalName) → are_new taken (xs ++ ys) ≡ (are_new taken xs && are_new (with_names taken xs) ys)
new_append taken [] ys = refl
new_append taken (Numbered n ∷ xs) ys = new_append taken xs ys
new_append taken (Named bytes ∷ xs) ys =
    ap (λ b. not (list_any (bytes_eq bytes) taken) && b) (new_append (bytes ∷ taken) xs ys)
    ∙ and_assoc (not (list_any (bytes_eq bytes) taken)) (are_new (bytes ∷ taken) xs) (are_new (with_names (bytes ∷ taken) xs) ys)

with_append : (taken : List Bytes) (xs ys : List LocalName) → with_names taken (xs ++ ys) ≡ with_names (with_names taken xs) ys
with_append taken [] ys = refl
with_append taken (Numbered n ∷ xs) ys = with_append taken xs ys
with_append taken (Named bytes ∷ xs) ys = with_append (bytes ∷ taken) xs ys

after_append : (own : ℕ) (xs ys : List LocalName) → after_all own (xs ++ ys) ≡ after_all (after_all own xs) ys
after_append own [] ys = refl
after_append own (x ∷ xs) ys = after_append (after own x) xs ys

-- ---- one more name

pub step_by : (t : Texts) (own n i : ℕ) (w : Walk) → n ≡ suc i → is_stopped w ≡ false
    → labels_by t own n w ≡ (let x = (label t own).read w in let xs = labels_by t (after own x.0) i x.1 in (x.0 ∷ xs.0, xs.1))
unfolding labels_by
step_by t own n i (going rest broken) is on = ap (λ j. labels_by t own j (going rest broken)) is
step_by t own n i (stopped broken) is on = absurd (cc)

pub over_by : (t : Texts) (own n : ℕ) (w : Walk) → (n ≡ 0) ⊎ (is_stopped w ≡ true) → labels_by t own n w ≡ ([], w)
unfolding labels_by
over_by t own n w (inl none) = ap (λ j. labels_by t own j w) none
over_by t own zero w (inr on) = refl
over_by t own (suc n) (going rest broken) (inr on) = absurd (cc)
over_by t own (suc n) (stopped broken) (inr on) = refl

-- the names so far, and those to come
pub record IsRunning (x : the_texts.Texts) (first now : Reader) (before after_it : BodyNames) (count place : ℕ) (all_new : Bool) : Type 0 where
  pub names : List LocalName
  pub values : (labels_by (texts_of x) 0 count first.walk).0 ≡ names ++ (labels_by (texts_of x) (after_all 0 names) (count - place) now.walk).0
  pub walk : (labels_by (texts_of x) 0 count first.walk).1 ≡ (labels_by (texts_of x) (after_all 0 names) (count - place) now.walk).1
  pub reader : now ≡ record first { walk = now.walk }
  pub tame : IsTame x first.walk → IsTame x now.walk
  pub judged : IsTame x first.walk → (own : ℕ) (taken : List Bytes) → AreNames before own taken → IsBrokenBy 4 now.walk ⊎ AreCalled before (after_all 0 names) taken names now.walk all_new after_it

pub none_yet : (x : the_texts.Texts) (first : Reader) (before after_it : BodyNames) (count : ℕ) → after_it ≡ record before { own = 0 } → IsRunning x first first before after_it count 0 true
none_yet x first before after_it count is = subst (λ (n : BodyNames). IsRunning x first first before n count 0 true) (sym is) (record {
  names = [];
  values = ap (λ n. (labels_by (texts_of x) 0 n first.walk).0) whole;
  walk = ap (λ n. (labels_by (texts_of x) 0 n first.walk).1) whole;
  reader = refl;
  tame = λ h. h;
  judged = λ tame own taken h. inr (record { is_new = refl; names_are = record { own_is = refl; there = h.there; bytes = h.bytes }; strange = λ unbroken. refl });
})
  where
    whole : count ≡ count - 0
    whole = omega arith

module _ (x : the_texts.Texts) (first now new : Reader) (before after_it called : BodyNames) (count place : ℕ) (all_new is_new : Bool) (name : Option the_local.LocalName) (h : IsRunning x first now before after_it count place all_new)
    (given : Option the_local.LocalName) (given_is : given ≡ name) (less : place < count) (on : is_stopped now.walk ≡ false) (reads : ReadsCalled x after_it.own now new name) (made : Calls after_it given is_new called) where
  calls : Calls after_it name is_new called
  calls = subst (λ n. Calls after_it n is_new called) given_is made

  abbrev own : ℕ
  own = after_all 0 h.names

  abbrev value : LocalName
  value = ((label (texts_of x) own).read now.walk).0

  at : new.walk ≡ ((label (texts_of x) own).read now.walk).1
  at = ap (λ (q : Reader). q.walk) reads.reads.reader

  step : labels_by (texts_of x) own (count - place) now.walk ≡ (let xs = labels_by (texts_of x) (after own value) (count - (place + 1)) ((label (texts_of x) own).read now.walk).1 in (value ∷ xs.0, xs.1))
  step = step_by (texts_of x) own (count - place) (count - (place + 1)) now.walk (omega (arith, less)) on

  own_is : after own value ≡ after_all 0 (h.names ++ value ∷ [])
  own_is = sym (after_append 0 h.names (value ∷ []))

  named : (n : Option the_local.LocalName) → IsKept IsLocal n ((label (texts_of x) after_it.own).read now.walk).0 new.walk → (n ≡ None → ((label (texts_of x) after_it.own).read now.walk).0 ≡ called_as None) → called_as n ≡ ((label (texts_of x) after_it.own).read now.walk).0
  named None kept none = sym (none refl)
  named (Some kept) is none = is

  still : (n : Option the_local.LocalName) → IsKept IsLocal n ((label (texts_of x) after_it.own).read now.walk).0 new.walk → is_broken new.walk ≡ false → is_none n ≡ false
  still None kept unbroken = absurd (cc)
  still (Some kept) is unbroken = refl

  was_unbroken : is_broken new.walk ≡ false → is_broken now.walk ≡ false
  was_unbroken unbroken = by (is_broken now.walk) refl
    where
      by : (b : Bool) → is_broken now.walk ≡ b → is_broken now.walk ≡ false
      by false e = e
      by true e = let broken : is_broken new.walk ≡ true = ap is_broken at ∙ label_broken x own now.walk e in absurd (cc)

  or_false : (a b : Bool) → b ≡ false → (a || b) ≡ a
  or_false true b e = refl
  or_false false b e = e

  one_more : (taken : List Bytes) → AreCalled before own taken h.names now.walk all_new after_it → (name ≡ None → ((label (texts_of x) after_it.own).read now.walk).0 ≡ called_as None)
      → AreCalled before (after_all 0 (h.names ++ value ∷ [])) taken (h.names ++ value ∷ []) new.walk (all_new && is_new) called
  one_more taken so none =
      let v : called_as name ≡ value = named name reads.reads.kept none ∙ ap (λ o. ((label (texts_of x) o).read now.walk).0) so.names_are.own_is in
      let one = calls.judged own (with_names taken h.names) so.names_are in
      record {
        is_new = (λ j. so.is_new j && (one.0 ∙ ap (λ n. are_new (with_names taken h.names) (n ∷ [])) v) j) ∙ sym (new_append taken h.names (value ∷ []));
        names_are = subst (λ o. AreNames called o (with_names taken (h.names ++ value ∷ []))) own_is
            (subst (AreNames called (after own value)) (sym (with_append taken h.names (value ∷ [])))
            (subst (λ n. AreNames called (after_all own (n ∷ [])) (with_names (with_names taken h.names) (n ∷ []))) v one.1));
        strange = λ unbroken. calls.strange ∙ (or_false after_it.strange (is_none name) (still name reads.reads.kept unbroken) ∙ so.strange (was_unbroken unbroken));
      }

  judged_more : IsTame x first.walk → (o : ℕ) (taken : List Bytes) → AreNames before o taken
      → IsBrokenBy 4 new.walk ⊎ AreCalled before (after_all 0 (h.names ++ value ∷ [])) taken (h.names ++ value ∷ []) new.walk (all_new && is_new) called
  judged_more tame o taken there = by (h.judged tame o taken there)
    where
      by_name : AreCalled before own taken h.names now.walk all_new after_it → (n : Option the_local.LocalName) → name ≡ n → IsBrokenBy 4 new.walk ⊎ AreCalled before (after_all 0 (h.names ++ value ∷ [])) taken (h.names ++ value ∷ []) new.walk (all_new && is_new) called
      by_name so (Some kept) e = inr (one_more taken so (λ none. absurd (cc)))
      by_name so None e = strange (reads.none (h.tame tame) e)
        where
          strange : IsBrokenBy 4 new.walk ⊎ (((label (texts_of x) after_it.own).read now.walk).0 ≡ called_as None) → IsBrokenBy 4 new.walk ⊎ AreCalled before (after_all 0 (h.names ++ value ∷ [])) taken (h.names ++ value ∷ []) new.walk (all_new && is_new) called
          strange (inl low) = inl low
          strange (inr is) = inr (one_more taken so (λ none. is))

      by : IsBrokenBy 4 now.walk ⊎ AreCalled before own taken h.names now.walk all_new after_it → IsBrokenBy 4 new.walk ⊎ AreCalled before (after_all 0 (h.names ++ value ∷ [])) taken (h.names ++ value ∷ []) new.walk (all_new && is_new) called
      by (inl low) = inl (subst (IsBrokenBy 4) (sym at) (label_low x own now.walk low))
      by (inr so) = by_name so name refl

  pub more_names : (all : Bool) → all ≡ (all_new && is_new) → IsRunning x first new before called count (place + 1) all
  more_names all is = subst (IsRunning x first new before called count (place + 1)) (sym is) (record {
    names = h.names ++ value ∷ [];
    values = h.values ∙ (ap (λ (r : List LocalName × Walk). h.names ++ r.0) step ∙ (sym (append_assoc h.names (value ∷ []) _) ∙ (λ j. (h.names ++ value ∷ []) ++ (labels_by (texts_of x) (own_is j) (count - (place + 1)) (sym at j)).0)));
    walk = h.walk ∙ (ap (λ (r : List LocalName × Walk). r.1) step ∙ (λ j. (labels_by (texts_of x) (own_is j) (count - (place + 1)) (sym at j)).1));
    reader = reads.reads.reader ∙ (ap (λ (q : Reader). record q { walk = ((label (texts_of x) own).read now.walk).1 }) h.reader ∙ ap (λ w. record first { walk = w }) (sym at));
    tame = λ t. subst (IsTame x) (sym at) (tame_label x own now.walk (h.tame t));
    judged = judged_more;
  })

-- all of them
pub all_names : (x : the_texts.Texts) (first now : Reader) (before after_it : BodyNames) (count place : ℕ) (all_new : Bool) → IsRunning x first now before after_it count place all_new → (count - place ≡ 0) ⊎ (is_stopped now.walk ≡ true)
    → ReadsNames x count first before all_new now after_it
all_names x first now before after_it count place all_new h last =
    let over = over_by (texts_of x) (after_all 0 h.names) (count - place) now.walk last in
    let walk : (labels_by (texts_of x) 0 count first.walk).1 ≡ now.walk = h.walk ∙ ap (λ (r : List LocalName × Walk). r.1) over in
    let names : h.names ≡ (labels_by (texts_of x) 0 count first.walk).0 = sym (h.values ∙ (ap (λ (r : List LocalName × Walk). h.names ++ r.0) over ∙ append-nil h.names)) in
    record {
      reader = h.reader ∙ ap (λ w. record first { walk = w }) (sym walk);
      judged = λ tame own taken there. subst (λ (ns : List LocalName). IsBrokenBy 4 now.walk ⊎ AreCalled before (after_all 0 ns) taken ns now.walk all_new after_it) names (h.judged tame own taken there);
    }
