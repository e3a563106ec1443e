-- Fronts and rests of lists, and what is told of them.
use Rattle.std.proofs.Common.{◌≡◌, [], ◌∷◌, ◌<◌, get_or, refl, ℕ, ◌+◌, ◌-◌, ◌≤◌, List, ◌++◌, length, take, drop, Option, Some, None, Result, Ok, Err, IfOk, OnErr, sym, ap, ◌∙◌, arith, append_assoc, inl, inr}
use Rattle.std.specs.Option.{option_map}
use Rattle.std.proofs.Math.Seq.{take-append-add}
use Rattle.std.proofs.lemmas.List.{append-nil, take_more, drop_more, take_at, take_all, drop-drop, take-append-drop, length-drop, length-append, length-take, take-append-le}
use Rattle.ir_base.specs.Calls.{next_count}
use Rattle.ir_base.specs.Outside.{Lost, LostUpTo, Added, Rose, Wrote, joined}
use Rattle.std.specs.Borrow.{Bor}

-- what was copied from a place on, and what is behind it, is what was there from that place on
pub front_then_rest : (at n : ℕ) (bytes copied rest : List ℕ) → copied ≡ take n (drop at bytes) → length copied ≡ n → drop at bytes ≡ take n (copied ++ rest) ++ drop (at + n) bytes
front_then_rest at n bytes copied rest e l =
    rw (take_at copied rest n l) (rw e (rw (← drop-drop n at bytes) (sym (take-append-drop n (drop at bytes)))))

-- two losses are one
pub lost_more : (a b c : Option (List ℕ)) (xs ys : List ℕ) → Lost a b xs → Lost b c ys → Lost a c (xs ++ ys)
lost_more a b None xs ys p q = p ∙ ap (option_map (λ rest. xs ++ rest)) q
lost_more a b (Some zs) xs ys p q = p ∙ ap (option_map (λ rest. xs ++ rest)) q ∙ ap (λ l. Some l) (sym (append_assoc xs ys zs))

-- two additions are one
pub added_more : (a b c : Option (List ℕ)) (xs ys : List ℕ) → Added a b xs → Added b c ys → Added a c (xs ++ ys)
added_more None b c xs ys p q = q ∙ ap (option_map (λ old. old ++ ys)) p
added_more (Some zs) b c xs ys p q = q ∙ ap (option_map (λ old. old ++ ys)) p ∙ ap (λ l. Some l) (append_assoc zs xs ys)

-- what holds anyway holds at an error
pub OnErr-anyway : {T E P : Type 0} (r : Result T E) → P → OnErr r P
OnErr-anyway (Ok x) p = tt
OnErr-anyway (Err e) p = p

-- what holds of every value holds at an Ok
pub IfOk-anyway : {T E : Type 0} {P : T → Type 0} (r : Result T E) → ((v : T) → P v) → IfOk r P
IfOk-anyway (Ok x) p = p x
IfOk-anyway (Err e) p = tt

-- a counter that was raised by one rose
pub rose_counted : (m n : ℕ) → n ≡ next_count m → Rose m n
rose_counted m n e = grind (arith, e)

-- the slice from a place on is all that is there
pub rest_whole : (at : ℕ) (line : List ℕ) → take (length line - at) (drop at line) ≡ drop at line
rest_whole at line = take_all (length line - at) (drop at line) (omega (arith, length-drop at line))

-- two losses stay within the limit
pub lost_both : (limit n : ℕ) (a b c : Option (List ℕ)) (xs ys : List ℕ) → length xs + n ≤ limit → Lost a b xs → Lost b c (take n ys) → LostUpTo limit a c
lost_both limit n a b c xs ys few p q =
    record {
      front = xs ++ take n ys;
      few = omega (arith, length-append xs (take n ys), length-take n ys);
      lost = lost_more a b c xs (take n ys) p q;
    }

-- a front of a line is one of a longer line
pub wrote_front : (a b : Option (List ℕ)) (m n : ℕ) (xs ys : List ℕ) → Rose m n → Wrote a b m n xs → Wrote a b m n (xs ++ ys)
wrote_front a b m n xs ys rose w =
    record {
      count = w.count;
      within = let h = w.within in omega (arith, length-append xs ys);
      added = rw (take-append-le w.count xs ys w.within) w.added;
      all = inr rose;
    }

-- behind a whole line goes the next
pub wrote_more : (a b c : Option (List ℕ)) (m n : ℕ) (xs ys : List ℕ) → Added a b xs → Wrote b c m n ys → Wrote a c m n (xs ++ ys)
wrote_more a b c m n xs ys p w =
    record {
      count = length xs + w.count;
      within = let h = w.within in omega (arith, length-append xs ys);
      added = rw (take-append-add xs ys w.count) (added_more a b c xs (take w.count ys) p w.added);
      all = elim w.all [ inl whole ↦ inl (omega (arith, length-append xs ys)) | inr rose ↦ inr rose ];
    }

pub joined_append : (xs ys : List (Bor (List ℕ))) → joined (xs ++ ys) ≡ joined xs ++ joined ys
joined_append [] ys = refl
joined_append (x ∷ xs) ys = ap (λ (l : List ℕ). x.now ++ l) (joined_append xs ys) ∙ sym (append_assoc x.now (joined xs) (joined ys))

-- one piece more
pub joined_more : (pieces : List (Bor (List ℕ))) (at : ℕ) (d : Bor (List ℕ)) → at < length pieces → joined (take (at + 1) pieces) ≡ joined (take at pieces) ++ (get_or pieces at d).now
joined_more pieces at d h =
    ap joined (take_more pieces at d h) ∙ joined_append (take at pieces) (get_or pieces at d ∷ []) ∙ ap (λ (l : List ℕ). joined (take at pieces) ++ l) (append-nil (get_or pieces at d).now)

-- what was joined, the next piece, and the rest
pub joined_split : (pieces : List (Bor (List ℕ))) (at : ℕ) (d : Bor (List ℕ)) → at < length pieces → joined pieces ≡ joined (take at pieces) ++ ((get_or pieces at d).now ++ joined (drop (at + 1) pieces))
joined_split pieces at d h =
    ap joined (sym (take-append-drop at pieces)) ∙ joined_append (take at pieces) (drop at pieces) ∙ ap (λ (l : List (Bor (List ℕ))). joined (take at pieces) ++ joined l) (drop_more pieces at d h)
