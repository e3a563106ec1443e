-- Operands that are appended one behind the other.
use Rattle.std.proofs.Common.{◌≡◌, ℕ, ◌+◌, ◌<◌, ◌≤◌, List, [], ◌∷◌, ◌++◌, length, drop, get_or, Result, Ok, Err, OnOk, append_assoc, sym, ap, ◌∙◌}
use Rattle.std.proofs.lemmas.List.{at_drop_more, at_drop_all, append-nil}

-- two, three and more lists behind one
pub two : (o x y m n : List ℕ) → m ≡ o ++ x → n ≡ m ++ y → n ≡ o ++ (x ++ y)
two o x y m n e f = f ∙ ap (λ (l : List ℕ). l ++ y) e ∙ append_assoc o x y

pub three : (o x y z m n p : List ℕ) → m ≡ o ++ x → n ≡ m ++ y → p ≡ n ++ z → p ≡ o ++ (x ++ (y ++ z))
three o x y z m n p e f g = two o x (y ++ z) m p e (two m y z n p f g)

pub four : (o x y z w m n p q : List ℕ) → m ≡ o ++ x → n ≡ m ++ y → p ≡ n ++ z → q ≡ p ++ w → q ≡ o ++ (x ++ (y ++ (z ++ w)))
four o x y z w m n p q e f g h = two o x (y ++ (z ++ w)) m q e (three m y z w n p q f g h)

pub five : (o x y z w v m n p q r : List ℕ) → m ≡ o ++ x → n ≡ m ++ y → p ≡ n ++ z → q ≡ p ++ w → r ≡ q ++ v → r ≡ o ++ (x ++ (y ++ (z ++ (w ++ v))))
five o x y z w v m n p q r e f g h i = two o x (y ++ (z ++ (w ++ v))) m r e (four m y z w v n p q r f g h i)

-- a list that is appended part by part, each by `one`
module _ {A : Type 0} (all : List A → List ℕ) (one : A → List ℕ) (more : (x : A) (xs : List A) → all (x ∷ xs) ≡ one x ++ all xs) where
  -- one part more
  pub part_more : (xs : List A) (k : ℕ) (x : A) (now next whole : List ℕ) → k < length xs → x ≡ get_or xs k x → now ++ all (drop k xs) ≡ whole → next ≡ now ++ one x → next ++ all (drop (k + 1) xs) ≡ whole
  part_more xs k x now next whole lt is before step =
      ap (λ (l : List ℕ). l ++ all (drop (k + 1) xs)) step
      ∙ append_assoc now (one x) (all (drop (k + 1) xs))
      ∙ ap (λ (l : List ℕ). now ++ l) (sym (more x (drop (k + 1) xs)) ∙ ap (λ (y : A). all (y ∷ drop (k + 1) xs)) is ∙ sym (at_drop_more all xs k x lt))
      ∙ before

  -- none is left
  pub part_end : all [] ≡ [] → (xs : List A) (k : ℕ) (now whole : List ℕ) → length xs ≤ k → now ++ all (drop k xs) ≡ whole → now ≡ whole
  part_end none xs k now whole le before = sym (append-nil now) ∙ ap (λ (l : List ℕ). now ++ l) (sym (at_drop_all all xs k le ∙ none)) ∙ before

-- two lists behind one, of which a call appended the second
pub behind : {E : Type 0} (r : Result (Unit {0}) E) (o x y z m n : List ℕ) → m ≡ o ++ x → OnOk r (n ≡ m ++ y) → x ++ y ≡ z → OnOk r (n ≡ o ++ z)
behind (Ok u) o x y z m n e f same = two o x y m n e f ∙ ap (λ (l : List ℕ). o ++ l) same
behind (Err e) o x y z m n h f same = tt

-- the same list in other words
pub reworded : {E : Type 0} (r : Result (Unit {0}) E) (o x y n : List ℕ) → OnOk r (n ≡ o ++ x) → x ≡ y → OnOk r (n ≡ o ++ y)
reworded (Ok u) o x y n e same = e ∙ ap (λ (l : List ℕ). o ++ l) same
reworded (Err e) o x y n h same = tt

-- the same of more lists, of which a call appended the last
pub last2 : {E : Type 0} (r : Result (Unit {0}) E) (o x y m n : List ℕ) → m ≡ o ++ x → OnOk r (n ≡ m ++ y) → OnOk r (n ≡ o ++ (x ++ y))
last2 (Ok u) o x y m n e f = two o x y m n e f
last2 (Err e) o x y m n h f = tt

pub last3 : {E : Type 0} (r : Result (Unit {0}) E) (o x y z m n p : List ℕ) → m ≡ o ++ x → n ≡ m ++ y → OnOk r (p ≡ n ++ z) → OnOk r (p ≡ o ++ (x ++ (y ++ z)))
last3 (Ok u) o x y z m n p e f g = three o x y z m n p e f g
last3 (Err e) o x y z m n p h f g = tt

pub last4 : {E : Type 0} (r : Result (Unit {0}) E) (o x y z w m n p q : List ℕ) → m ≡ o ++ x → n ≡ m ++ y → p ≡ n ++ z → OnOk r (q ≡ p ++ w) → OnOk r (q ≡ o ++ (x ++ (y ++ (z ++ w))))
last4 (Ok u) o x y z w m n p q e f g h = four o x y z w m n p q e f g h
last4 (Err e) o x y z w m n p q i f g h = tt

pub last6 : {E : Type 0} (r : Result (Unit {0}) E) (o x y z w v u m n p q s t : List ℕ) → m ≡ o ++ x → n ≡ m ++ y → p ≡ n ++ z → q ≡ p ++ w → s ≡ q ++ v → OnOk r (t ≡ s ++ u) → OnOk r (t ≡ o ++ (x ++ (y ++ (z ++ (w ++ (v ++ u))))))
last6 (Ok k) o x y z w v u m n p q s t e f g h i j = two o x (y ++ (z ++ (w ++ (v ++ u)))) m t e (five m y z w v u n p q s t f g h i j)
last6 (Err k) o x y z w v u m n p q s t e f g h i j = tt
