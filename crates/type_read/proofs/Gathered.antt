-- Types one behind the other, as a loop gathers them.
use Rattle.std.proofs.Common.{◌≡◌, ◌⊎◌, ◌<◌, ◌+◌, ℕ, Bool, true, false, cond, List, [], ◌∷◌, ◌++◌, Option, Some, None, nat_lt, refl, sym, ap, subst, ◌∙◌, arith, All, inl}
use Rattle.std.specs.Prelude.{option_to_list}
use Rattle.std.proofs.lemmas.List.{append-nil}
use Rattle.std.proofs.lemmas.List.Elements.{All-push}
use Rattle.std.proofs.lemmas.Bool.{ltb-true}
use Rattle.record_table.specs.Walk.{Walk, next, ask, count_left}
use Rattle.record_table.specs.Layout.{number, many, times, to_end}
use Rattle.record_table.specs.TypeRecords.{earlier}
use Rattle.record_read.specs.Reader.{Reader, Reads, ReadsAs, Takes, is_broken, is_stopped}
use Rattle.record_read.specs.Fields.{IsBelow}
use Rattle.record_read.proofs.Gathering.{moves, none_taken}
use Rattle.record_read.proofs.Repeated.{IsSoFar, begins, more, over}
use Rattle.type_read.specs.Fields.{AreBelow}
use Rattle.type_read.proofs.Walks.{earlier_lasts, vain_broken}

-- what is gathered so far, as long as no rule is broken, and so many are to come
pub record AreGathered (count : ℕ) (first now : Reader) (size n : ℕ) (items : List ℕ) : Type 0 where
  pub xs : List ℕ
  pub far : IsSoFar (earlier count).read first.walk size xs n now.walk
  pub reader : now ≡ record first { walk = now.walk }
  pub kept : is_broken now.walk ≡ false → items ≡ xs
  pub below : All (λ ty. ty < count) items

pub none_gathered : (count : ℕ) (first : Reader) (size : ℕ) → AreGathered count first first size size []
none_gathered count first size = record {
  xs = [];
  far = begins (earlier count).read first.walk size;
  reader = refl;
  kept = λ h. refl;
  below = λ k d lt. absurd (omega arith);
}

-- the same of a list that has no items yet
pub starts_gathered : (count : ℕ) (first : Reader) (size n : ℕ) (items : List ℕ) → n ≡ size → items ≡ [] → AreGathered count first first size n items
starts_gathered count first size n items many none = subst (λ k. AreGathered count first first size k items) (sym many) (subst (AreGathered count first first size size) (sym none) (none_gathered count first size))

-- one more, which is known where no rule is broken
pub one_gathered : (count : ℕ) (first before after : Reader) (size n m : ℕ) (items now : List ℕ) (ty : Option ℕ) → n ≡ m + 1 → is_stopped before.walk ≡ false → AreGathered count first before size n items
    → ReadsAs (IsBelow count) (earlier count) before after ty → now ≡ items ++ option_to_list ty → AreGathered count first after size m now
one_gathered count first before after size n m items now None fits goes h r is =
    let at : after.walk ≡ ((earlier count).read before.walk).1 = ap (λ (r : Reader). r.walk) r.reader in
    let same : now ≡ items = is ∙ append-nil items in
    record {
      xs = h.xs ++ ((earlier count).read before.walk).0 ∷ [];
      far = rw at (more (earlier count).read first.walk size h.xs n m before.walk fits goes h.far);
      reader = moves first before after ((earlier count).read before.walk).1 h.reader r.reader;
      kept = λ unbroken. let broken : is_broken after.walk ≡ true = r.kept in absurd (cc);
      below = subst (All (λ ty. ty < count)) (sym same) h.below;
    }
one_gathered count first before after size n m items now (Some ty) fits goes h r is =
    let at : after.walk ≡ ((earlier count).read before.walk).1 = ap (λ (r : Reader). r.walk) r.reader in
    record {
      xs = h.xs ++ ((earlier count).read before.walk).0 ∷ [];
      far = rw at (more (earlier count).read first.walk size h.xs n m before.walk fits goes h.far);
      reader = moves first before after ((earlier count).read before.walk).1 h.reader r.reader;
      kept = λ unbroken.
          let was = earlier_lasts count before.walk (sym (ap is_broken at) ∙ unbroken) in
          is ∙ (ap (λ (l : List ℕ). l ++ ty ∷ []) (h.kept was) ∙ ap (λ k. h.xs ++ k ∷ []) r.kept.0);
      below = subst (All (λ ty. ty < count)) (sym is) (All-push (λ ty. ty < count) items ty h.below r.kept.1);
    }

-- all of them
pub all_gathered : (count : ℕ) (first now : Reader) (size n : ℕ) (items : List ℕ) (broken : Bool) (answer : Option (List ℕ)) → AreGathered count first now size n items → (n ≡ 0) ⊎ (is_stopped now.walk ≡ true)
    → is_broken now.walk ≡ broken → answer ≡ cond broken None (Some items) → ReadsAs (AreBelow count) (times size (earlier count)) first now answer
all_gathered count first now size n items true answer h last is got =
    let all = over (earlier count).read first.walk size h.xs n now.walk last h.far in
    record { kept = rw got is; reader = h.reader ∙ ap (λ w. record first { walk = w }) (sym all.walk) }
all_gathered count first now size n items false answer h last is got =
    let all = over (earlier count).read first.walk size h.xs n now.walk last h.far in
    record { kept = rw got (h.kept is ∙ sym all.values, h.below); reader = h.reader ∙ ap (λ w. record first { walk = w }) (sym all.walk) }

-- an operand that was taken, and asked to be one of so many
pub asked_below : (count : ℕ) (before mid after : Reader) (n : ℕ) (ty : Option ℕ) → Reads number before mid n → is_stopped mid.walk ≡ false → after ≡ record mid { walk = ask 2 (nat_lt n count) mid.walk } → ty ≡ cond (nat_lt n count) (Some n) None
    → ReadsAs (IsBelow count) (earlier count) before after ty
asked_below count before mid after n ty h goes asked is = by_test (nat_lt n count) refl
  where
    reader_is : after ≡ record before { walk = ((earlier count).read before.walk).1 }
    reader_is = asked ∙ (ap (λ (r : Reader). record r { walk = ask 2 (nat_lt n count) r.walk }) h.reader ∙ ap (λ k. record before { walk = ask 2 (nat_lt k count) (next before.walk).1 }) h.value)

    by_test : (b : Bool) → nat_lt n count ≡ b → ReadsAs (IsBelow count) (earlier count) before after ty
    by_test true e = record { kept = rw (is, e) (h.value, ltb-true n count e); reader = reader_is }
    by_test false e =
        let at : after.walk ≡ ask 2 false mid.walk = ap (λ (r : Reader). r.walk) asked ∙ ap (λ b. ask 2 b mid.walk) e in
        record { kept = rw (is, e, at) (still_going mid.walk goes); reader = reader_is }
      where
        still_going : (w : Walk) → is_stopped w ≡ false → is_broken (ask 2 false w) ≡ true
        still_going w stops = vain_broken 2 w (λ s. absurd (stops_not w stops s))
          where
            stops_not : (v : Walk) → is_stopped v ≡ false → is_stopped (ask 2 false v) ≡ true → ⊥
            stops_not (Walk.going rest broken) p q = cc
            stops_not (Walk.stopped broken) p q = cc

-- all that are left
pub rest_gathered : (count : ℕ) (first before now : Reader) (items : List ℕ) (answer : Option (List ℕ)) → AreGathered count first before (count_left first.walk) (count_left before.walk) items → Takes before None now → answer ≡ cond (is_broken now.walk) None (Some items)
    → ReadsAs (AreBelow count) (to_end (earlier count)) first now answer
rest_gathered count first before now items answer h last is =
    let none = none_taken before now last in
    let same : is_broken now.walk ≡ is_broken before.walk = ap (λ (r : Reader). is_broken r.walk) none.0 in
    let all = all_gathered count first before (count_left first.walk) (count_left before.walk) items (is_broken before.walk) answer h (inl none.1) refl (is ∙ ap (λ b. cond b None (Some items)) same) in
    rw none.0 (record { kept = all.kept; reader = all.reader })
