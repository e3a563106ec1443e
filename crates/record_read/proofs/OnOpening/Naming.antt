-- The operands against the name of this producer, byte by byte.
use Rattle.std.proofs.Common.{◌≡◌, ◌<◌, ◌+◌, ℕ, suc, Bool, true, false, ◌&&◌, List, [], ◌∷◌, ◌++◌, get_or, drop, Option, Some, None, is_none, bytes_eq, nat_eq, refl, sym, ap, subst, ◌∙◌, ◌⊎◌, drop-cons, add-one}
use Rattle.record_table.specs.Fields.{byte}
use Rattle.record_table.specs.Walk.{Walk, going, stopped}
use Rattle.record_table.specs.Layout.{many}
use Rattle.record_table.specs.Records.{producer}
use Rattle.record_read.specs.Reader.{Reader, TakesBy, is_stopped}
use Rattle.record_read.specs.Opening.Producer.{TakesThat}
use Rattle.record_read.proofs.Repeated.{IsSoFar, begins, more, over}

-- so many bytes of the name are there, and the rest is to be compared
pub record IsNaming (operands : List ℕ) (place : ℕ) (w : Walk) : Type 0 where
  pub rest : List ℕ
  pub walk : w ≡ going rest None
  pub same : bytes_eq operands producer ≡ bytes_eq rest (drop place producer)

pub names_begin : (operands : List ℕ) (w : Walk) → w ≡ going operands None → IsNaming operands 0 w
names_begin operands w is = record { rest = operands; walk = is; same = refl }

split : (place : ℕ) → place < 17 → drop place producer ≡ get_or producer place 0 ∷ drop (suc place) producer
split place lt = drop-cons producer place 0 lt

taken_by : (rest : List ℕ) (old new : Reader) (taken : ℕ) → TakesBy (going rest None) old (Some taken) new
    → (behind : List ℕ) × (rest ≡ taken ∷ behind) × (new ≡ record old { walk = going behind None })
taken_by [] old new taken h = absurd h
taken_by (n ∷ behind) old new taken h = (behind, ap (λ k. k ∷ behind) (sym h.0), h.1)

none_by : (rest : List ℕ) (old new : Reader) → TakesBy (going rest None) old None new → (rest ≡ []) × (new ≡ old)
none_by [] old new h = (refl, h)
none_by (n ∷ behind) old new h = absurd h

-- the next operand, as it was taken
pub took_some : (number : ℕ) (old new : Reader) (taken : ℕ) → TakesBy old.walk old (Some taken) new → (operands : List ℕ) → old.walk ≡ going operands None → TakesThat number operands (nat_eq taken number) new.walk
took_some number old new taken t [] walk = absurd (subst (λ w. TakesBy w old (Some taken) new) walk t)
took_some number old new taken t (n ∷ operands) walk =
    let k : (taken ≡ n) × (new ≡ record old { walk = going operands None }) = subst (λ w. TakesBy w old (Some taken) new) walk t in
    (ap (λ m. nat_eq m number) k.0, ap (λ (r : Reader). r.walk) k.1)

pub took_none : (number : ℕ) (old new : Reader) → TakesBy old.walk old None new → (operands : List ℕ) → old.walk ≡ going operands None → TakesThat number operands false new.walk
took_none number old new t [] walk = refl
took_none number old new t (n ∷ operands) walk = absurd (subst (λ w. TakesBy w old None new) walk t)

module _ (operands : List ℕ) (place number : ℕ) (is : Bool) (w new : Walk) (h : IsNaming operands place w) (lt : place < 17) (at : number ≡ get_or producer place 0)
    (takes : (rest : List ℕ) → w ≡ going rest None → TakesThat number rest is new) where
  -- the next byte is there
  pub names_on : is ≡ true → IsNaming operands (place + 1) new
  names_on there = by_rest h.rest h.same (takes h.rest h.walk)
    where
      by_rest : (rest : List ℕ) → bytes_eq operands producer ≡ bytes_eq rest (drop place producer) → TakesThat number rest is new → IsNaming operands (place + 1) new
      by_rest [] same t = absurd (cc)
      by_rest (n ∷ rest) same t =
          let eq : nat_eq n (get_or producer place 0) ≡ true = ap (λ k. nat_eq n k) (sym at) ∙ (sym t.0 ∙ there) in
          record {
            rest = rest;
            walk = t.1;
            same = same ∙ (ap (λ (ks : List ℕ). bytes_eq (n ∷ rest) ks) (split place lt)
                ∙ (ap (λ b. b && bytes_eq rest (drop (suc place) producer)) eq ∙ ap (λ k. bytes_eq rest (drop k producer)) (sym (add-one place))));
          }

  -- another is, or none
  pub names_not : is ≡ false → bytes_eq operands producer ≡ false
  names_not other = by_rest h.rest h.same (takes h.rest h.walk)
    where
      by_rest : (rest : List ℕ) → bytes_eq operands producer ≡ bytes_eq rest (drop place producer) → TakesThat number rest is new → bytes_eq operands producer ≡ false
      by_rest [] same t = same ∙ ap (λ (ks : List ℕ). bytes_eq [] ks) (split place lt)
      by_rest (n ∷ rest) same t =
          let eq : nat_eq n (get_or producer place 0) ≡ false = ap (λ k. nat_eq n k) (sym at) ∙ (sym t.0 ∙ other) in
          same ∙ (ap (λ (ks : List ℕ). bytes_eq (n ∷ rest) ks) (split place lt) ∙ ap (λ b. b && bytes_eq rest (drop (suc place) producer)) eq)

-- all bytes of the name are there: no other may be left
pub names_over : (operands : List ℕ) (place : ℕ) (old new : Reader) (o : Option ℕ) → IsNaming operands place old.walk → place ≡ 17 → TakesBy old.walk old o new → bytes_eq operands producer ≡ is_none o
names_over operands place old new (Some taken) h all t =
    let x = taken_by h.rest old new taken (subst (λ w. TakesBy w old (Some taken) new) h.walk t) in
    h.same ∙ (ap (λ (ks : List ℕ). bytes_eq ks (drop place producer)) x.1 ∙ ap (λ n. bytes_eq (taken ∷ x.0) (drop n producer)) all)
names_over operands place old new None h all t =
    let x = none_by h.rest old new (subst (λ w. TakesBy w old None new) h.walk t) in
    h.same ∙ (ap (λ (ks : List ℕ). bytes_eq ks (drop place producer)) x.0 ∙ ap (λ n. bytes_eq [] (drop n producer)) all)

-- what is taken changes the walk alone
pub takes_walk : (w : Walk) (old new : Reader) (o : Option ℕ) → TakesBy w old o new → new ≡ record old { walk = new.walk }
takes_walk (going [] broken) old new None h = h ∙ ap (λ (r : Reader). record old { walk = r.walk }) (sym h)
takes_walk (going [] broken) old new (Some n) h = absurd h
takes_walk (going (n ∷ rest) broken) old new None h = absurd h
takes_walk (going (n ∷ rest) broken) old new (Some m) h = h.1 ∙ ap (λ (r : Reader). record old { walk = r.walk }) (sym h.1)
takes_walk (stopped broken) old new None h = h ∙ ap (λ (r : Reader). record old { walk = r.walk }) (sym h)
takes_walk (stopped broken) old new (Some n) h = absurd h

pub still_rest : (first before after : Reader) → before ≡ record first { walk = before.walk } → after ≡ record before { walk = after.walk } → after ≡ record first { walk = after.walk }
still_rest first before after h k = k ∙ ap (λ (r : Reader). record r { walk = after.walk }) h

-- ---- bytes of another record

-- so many bytes are to come
pub record IsFar (first now : Reader) (n : ℕ) : Type 0 where
  pub xs : List ℕ
  pub far : IsSoFar byte.read first.walk 17 xs n now.walk
  pub rest : now ≡ record first { walk = now.walk }

pub far_begin : (first : Reader) → IsFar first first 17
far_begin first = record { xs = []; far = begins byte.read first.walk 17; rest = refl }

pub far_more : (first before after : Reader) (n m : ℕ) → n ≡ m + 1 → is_stopped before.walk ≡ false → IsFar first before n → after ≡ record before { walk = (byte.read before.walk).1 } → IsFar first after m
far_more first before after n m one goes h is =
    let at : after.walk ≡ (byte.read before.walk).1 = ap (λ (r : Reader). r.walk) is in
    record {
      xs = h.xs ++ (byte.read before.walk).0 ∷ [];
      far = subst (λ w. IsSoFar byte.read first.walk 17 (h.xs ++ (byte.read before.walk).0 ∷ []) m w) (sym at) (more byte.read first.walk 17 h.xs n m before.walk one goes h.far);
      rest = still_rest first before after h.rest (is ∙ ap (λ w. record before { walk = w }) (sym at));
    }

pub far_over : (first now : Reader) (n : ℕ) → (n ≡ 0) ⊎ (is_stopped now.walk ≡ true) → IsFar first now n → now ≡ record first { walk = (many byte.read 17 first.walk).1 }
far_over first now n last h = h.rest ∙ ap (λ w. record first { walk = w }) (sym (over byte.read first.walk 17 h.xs n now.walk last h.far).walk)
