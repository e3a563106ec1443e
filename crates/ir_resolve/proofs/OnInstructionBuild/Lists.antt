-- Lists whose items stand, one by one, for those of another list.
use Rattle.std.proofs.Common.{◌≡◌, ℕ, ◌+◌, ◌<◌, List, [], ◌∷◌, ◌++◌, map, length, get_or, take, All, refl, sym, ap, ◌∙◌, subst, arith}
use Rattle.std.proofs.lemmas.List.{map-append, map_more}
use Rattle.std.proofs.lemmas.List.Elements.{All-cons}
use Rattle.ir_resolve.specs.InstructionBuild.Parts.{Each}

pub each_weaker : {X Y : Type 0} (Is Still : X → Y → Type 0) → ((x : X) (y : Y) → Is x y → Still x y) → (xs : List X) (ys : List Y) → Each Is xs ys → Each Still xs ys
each_weaker Is Still weaker [] [] h = h
each_weaker Is Still weaker [] (y ∷ ys) h = absurd h
each_weaker Is Still weaker (x ∷ xs) [] h = absurd h
each_weaker Is Still weaker (x ∷ xs) (y ∷ ys) h = (weaker x y h.0, each_weaker Is Still weaker xs ys h.1)

pub each_push : {X Y : Type 0} (Is : X → Y → Type 0) (xs : List X) (ys : List Y) (x : X) (y : Y) → Each Is xs ys → Is x y → Each Is (xs ++ x ∷ []) (ys ++ y ∷ [])
each_push Is [] [] x y h one = (one, h)
each_push Is [] (z ∷ ys) x y h one = absurd h
each_push Is (w ∷ xs) [] x y h one = absurd h
each_push Is (w ∷ xs) (z ∷ ys) x y h one = (h.0, each_push Is xs ys x y h.1 one)

-- one more of a loop over the items of a list
pub each_step : {W V X Y : Type 0} (f : W → V) (g : V → Y) (ws : List W) (i : ℕ) (w : W) → i < length ws → w ≡ get_or ws i w
    → (Is Still : X → Y → Type 0) → ((x : X) (y : Y) → Is x y → Still x y) → (xs more : List X) (x : X)
    → Each Is xs (map g (map f (take i ws))) → Still x (g (f w)) → more ≡ xs ++ x ∷ [] → Each Still more (map g (map f (take (i + 1) ws)))
each_step f g ws i w lt is Is Still weaker xs more x all one pushed =
    let first = map f (take i ws) in
    let step : map f (take (i + 1) ws) ≡ first ++ f w ∷ [] = map_more f ws i w lt ∙ ap (λ u. first ++ f u ∷ []) (sym is) in
    let whole : map g (map f (take (i + 1) ws)) ≡ map g first ++ g (f w) ∷ [] = ap (map g) step ∙ map-append g first (f w ∷ []) in
    subst (λ zs. Each Still zs (map g (map f (take (i + 1) ws)))) (sym pushed)
    (subst (λ ys. Each Still (xs ++ x ∷ []) ys) (sym whole) (each_push Still xs (map g first) x (g (f w)) (each_weaker Is Still weaker xs (map g first) all) one))

-- what holds of each item by itself
pub each_known : {X Y : Type 0} (Is : X → Y → Type 0) (K : X → Type 0) → ((x : X) (y : Y) → Is x y → K x) → (xs : List X) (ys : List Y) → Each Is xs ys → All K xs
each_known Is K known [] [] h = λ k d lt. absurd (omega arith)
each_known Is K known [] (y ∷ ys) h = absurd h
each_known Is K known (x ∷ xs) [] h = absurd h
each_known Is K known (x ∷ xs) (y ∷ ys) h = All-cons K x xs (known x y h.0) (each_known Is K known xs ys h.1)

-- the items as they are seen
pub each_seen : {X Y : Type 0} (Is : X → Y → Type 0) (view : X → Y) → ((x : X) (y : Y) → Is x y → view x ≡ y) → (xs : List X) (ys : List Y) → Each Is xs ys → map view xs ≡ ys
each_seen Is view seen [] [] h = refl
each_seen Is view seen [] (y ∷ ys) h = absurd h
each_seen Is view seen (x ∷ xs) [] h = absurd h
each_seen Is view seen (x ∷ xs) (y ∷ ys) h =
    let one = seen x y h.0 in
    let rest = each_seen Is view seen xs ys h.1 in
    λ j. one j ∷ rest j
