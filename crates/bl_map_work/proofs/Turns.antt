-- Rounds of threads: seats and tasks are paired, have their turns, and are put back.
use Rattle.std.proofs.Common.{◌≡◌, ℕ, zero, suc, ◌<◌, ◌++◌, Bool, List, [], ◌∷◌, length, take, drop, get_or, refl, sym, ap, ◌∙◌, subst, append_assoc, append-nil, inl, inr, arith}
use Rattle.std.specs.Prelude.{All}
use Rattle.std.specs.List.{AllZip}
use Rattle.bl_index.specs.Calls.{IsPassOf}
use Rattle.bl_index.specs.declared.index.Pass.{Pass}
use Rattle.bl_map.specs.Handles.{index_of, seat_of}
use Rattle.std.proofs.lemmas.List.Elements.{All-nil, All-cons, All-head, All-tail}
use Rattle.bl_map.specs.Maps.{AreSeatsOf, IsSeatOf}
use Rattle.bl_map.specs.declared.map.Map.{Map}
use Rattle.bl_map_work.specs.declared.job.Task.{Task}
use Rattle.bl_map_work.specs.declared.rounds.Worker.{Worker}
use Rattle.bl_map_work.specs.Rounds.{Doing, HasTurn, IsFresh, seats_of, tasks_of}

-- what holds at each place holds of both lists
pub zip_of_each : {A : Type 0} (R : A → A → Type 0) (xs ys : List A) → length ys ≡ length xs → ((i : ℕ) (d : A) → i < length xs → R (get_or xs i d) (get_or ys i d)) → AllZip R xs ys
zip_of_each R [] [] same each = tt
zip_of_each R [] (y ∷ ys) same each = absurd (omega (arith, same))
zip_of_each R (x ∷ xs) [] same each = absurd (omega (arith, same))
zip_of_each R (x ∷ xs) (y ∷ ys) same each = (each zero x (omega arith), zip_of_each R xs ys (omega (arith, same)) (λ i d low. each (suc i) d (omega (arith, low))))

pub zip_length : {A : Type 0} (R : A → A → Type 0) (xs ys : List A) → AllZip R xs ys → length ys ≡ length xs
zip_length R [] [] h = refl
zip_length R [] (y ∷ ys) h = absurd h
zip_length R (x ∷ xs) [] h = absurd h
zip_length R (x ∷ xs) (y ∷ ys) h = ap suc (zip_length R xs ys h.1)

pub seats_more : {J : Type 0} (xs ys : List (Worker J)) → seats_of (xs ++ ys) ≡ seats_of xs ++ seats_of ys
seats_more [] ys = refl
seats_more (x ∷ xs) ys = ap (λ (z : List Pass). seat_of x.handle ∷ z) (seats_more xs ys)

pub tasks_more : {J : Type 0} (xs ys : List (Worker J)) → tasks_of (xs ++ ys) ≡ tasks_of xs ++ tasks_of ys
tasks_more [] ys = refl
tasks_more {J} (x ∷ xs) ys = ap (λ (z : List (Task J)). x.task ∷ z) (tasks_more xs ys)

pub none_left : {A : Type 0} (xs ys zs : List A) → length ys ≡ 0 → xs ++ ys ≡ zs → xs ≡ zs
none_left xs [] zs none whole = sym (append-nil xs) ∙ whole
none_left xs (y ∷ ys) zs none whole = absurd (omega (arith, none))

-- what moves from the front of the second list to the end of the first
pub one_moved : {A : Type 0} (xs now ys left zs : List A) (y : A) → ys ≡ y ∷ left → now ≡ xs ++ y ∷ [] → xs ++ ys ≡ zs → now ++ left ≡ zs
one_moved xs now ys left zs y next is whole =
    ap (λ (z : List _). z ++ left) is ∙ (append_assoc xs (y ∷ []) left ∙ (ap (λ (z : List _). xs ++ z) (sym next) ∙ whole))

-- the first of the seats and the first of the tasks are a worker's now
pub seats_moved : {J : Type 0} (workers now : List (Worker J)) (seats left all : List Pass) (seat : Pass) (worker : Worker J)
    → seats ≡ seat ∷ left → now ≡ workers ++ worker ∷ [] → seat_of worker.handle ≡ seat → seats_of workers ++ seats ≡ all → seats_of now ++ left ≡ all
seats_moved workers now seats left all seat worker next is same whole =
    one_moved (seats_of workers) (seats_of now) seats left all seat next
    (ap (λ (z : List (Worker _)). seats_of z) is ∙ (seats_more workers (worker ∷ []) ∙ ap (λ (z : Pass). seats_of workers ++ z ∷ []) same)) whole

pub tasks_moved : {J : Type 0} (workers now : List (Worker J)) (tasks left all : List (Task J)) (task : Task J) (worker : Worker J)
    → tasks ≡ task ∷ left → now ≡ workers ++ worker ∷ [] → worker.task ≡ task → tasks_of workers ++ tasks ≡ all → tasks_of now ++ left ≡ all
tasks_moved workers now tasks left all task worker next is same whole =
    one_moved (tasks_of workers) (tasks_of now) tasks left all task next
    (ap (λ (z : List (Worker _)). tasks_of z) is ∙ (tasks_more workers (worker ∷ []) ∙ ap (λ (z : Task _). tasks_of workers ++ z ∷ []) same)) whole

-- a worker's seat is of the index that it works on
own_seat : {J : Type 0} (whole : Map) (worker : Worker J) → index_of worker.handle ≡ whole.index → IsPassOf whole.index (seat_of worker.handle)
own_seat whole worker same = subst (λ i. IsPassOf i (seat_of worker.handle)) same worker.handle.own

-- who has had a turn works on the same index
turned_index : {J : Type 0} (Does : Doing J) (may_grow : Bool) (old new : Worker J) → HasTurn Does may_grow old new → index_of new.handle ≡ index_of old.handle
turned_index Does may_grow old new (inl turn) = ap (λ i. i.now) turn.2.0
turned_index Does may_grow old new (inr rest) = ap (λ (w : Worker _). index_of w.handle) rest.1

-- the seats that a round leaves are the map's
pub lefts_own : {J : Type 0} (Does : Doing J) (may_grow : Bool) (whole : Map) (before after : List (Worker J))
    → All (IsFresh whole) before → AllZip (HasTurn Does may_grow) before after → AreSeatsOf whole (seats_of after)
lefts_own Does may_grow whole [] [] fresh turns = All-nil (IsSeatOf whole)
lefts_own Does may_grow whole [] (w ∷ ws) fresh turns = absurd turns
lefts_own Does may_grow whole (v ∷ vs) [] fresh turns = absurd turns
lefts_own Does may_grow whole (v ∷ vs) (w ∷ ws) fresh turns =
    All-cons (IsSeatOf whole) (seat_of w.handle) (seats_of ws) (own_seat whole w (turned_index Does may_grow v w turns.0 ∙ (All-head (IsFresh whole) v vs fresh).0))
    (lefts_own Does may_grow whole vs ws (All-tail (IsFresh whole) v vs fresh) turns.1)

go_back : {A : Type 0} (xs ys : List A) → length ys ≡ length xs → take (length ys) (ys ++ drop (length ys) xs) ≡ ys
go_back xs [] same = refl
go_back [] (y ∷ ys) same = absurd (omega (arith, same))
go_back (x ∷ xs) (y ∷ ys) same = ap (λ (z : List _). y ∷ z) (go_back xs ys (omega (arith, same)))

-- a list that was written over as long as it is
pub written_back : {A : Type 0} (xs ys : List A) (n : ℕ) → length ys ≡ length xs → n ≡ length ys → take n (ys ++ drop (length ys) xs) ≡ ys
written_back xs ys n same is = subst (λ (z : ℕ). take z (ys ++ drop (length ys) xs) ≡ ys) (sym is) (go_back xs ys same)
