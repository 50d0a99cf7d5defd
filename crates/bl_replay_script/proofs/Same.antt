-- Two commands that may stand at one place and have the same text are the same.
use Rattle.std.proofs.Common.{◌≡◌, ℕ, ◌+◌, ◌*◌, ◌<◌, ◌^◌, List, length, get_or, refl, ap, sym, ◌∙◌, decimal, codes, arith}
use Rattle.std.proofs.lemmas.List.{append_cancel_left}
use Rattle.std.proofs.lemmas.Fmt.{digits_decimal}
use Rattle.std.proofs.lemmas.Str.Parse.{not_in_digits}
use Rattle.bl_serve_lines.proofs.Numbers.{own, at_middle}
use Rattle.bl_model.specs.declared.operation.Op.TheVariants.{Find, Insert, Put, Delete, Change, Part, PartDown}
use Rattle.bl_replay_script.specs.declared.command.Start.TheVariants.{Operation, FindNear, InsertPost, PutPost, PartNear, Post, Compress, Reclaim, Lower}
use Rattle.bl_replay_script.specs.declared.command.Command.{Command}
use Rattle.bl_replay_script.specs.declared.command.Command.TheVariants as command
use Rattle.bl_replay_script.specs.declared.command.Kinds.{Kinds}
use Rattle.bl_replay_script.specs.Commands.{one, two, three, IsLevel, IsPageCount, MayStand, command_text}
use Rattle.bl_replay_script.proofs.Numbers.{one_same, two_same, three_same}
use Rattle.bl_replay_script.proofs.Plain.{IsPlain, plain_word, plain_one, plain_two, plain_three}

-- one number has no space in it
one_not_two : (a b c : ℕ) → a < 2 ^ 64 → b < 2 ^ 64 → one a ≡ two b c → ⊥
one_not_two a b c small small_b e =
    let middle = at_middle (one a) b (decimal c) e in
    not_in_digits own (decimal a) 32 (digits_decimal own a small) (λ r. omega (arith, r.0)) (length (decimal b)) middle.0 middle.1

small_level : (level : ℕ) → IsLevel level → level < 2 ^ 64
small_level level h = omega (arith, h.1)

small_page : (page pages : ℕ) → IsPageCount pages → page < pages → page < 2 ^ 64
small_page page pages count lt = omega (arith, count.1)

pub line_text : (kinds : Kinds) (pages started : ℕ) → IsPageCount pages → (c : Command) → MayStand kinds pages started c → IsPlain (command_text c)
line_text kinds pages started count (command.Start (Operation (Find a))) h = plain_one (codes "find ") a refl (omega arith) h
line_text kinds pages started count (command.Start (FindNear a b)) h = plain_two (codes "findnear ") a b refl (omega arith) h.0 (small_page b pages count h.1)
line_text kinds pages started count (command.Start (Operation (Insert a b))) h = plain_two (codes "insert ") a b refl (omega arith) h.0 h.1
line_text kinds pages started count (command.Start (InsertPost a b)) h = plain_two (codes "insertpost ") a b refl (omega arith) h.0 h.1
line_text kinds pages started count (command.Start (Operation (Put a b))) h = plain_two (codes "put ") a b refl (omega arith) h.0 h.1
line_text kinds pages started count (command.Start (PutPost a b)) h = plain_two (codes "putpost ") a b refl (omega arith) h.0 h.1
line_text kinds pages started count (command.Start (Operation (Delete a))) h = plain_one (codes "delete ") a refl (omega arith) h
line_text kinds pages started count (command.Start (Operation (Change a b c))) h = plain_three (codes "change ") a b c refl (omega arith) h.0 h.1 h.2
line_text kinds pages started count (command.Start (Operation (Part a))) h = plain_one (codes "part ") a refl (omega arith) h.1
line_text kinds pages started count (command.Start (Operation (PartDown a))) h = plain_one (codes "partdown ") a refl (omega arith) h.1
line_text kinds pages started count (command.Start (PartNear a b)) h = plain_two (codes "partnear ") a b refl (omega arith) h.1 (small_page b pages count h.2)
line_text kinds pages started count (command.Start (Post a b)) h = plain_two (codes "post ") a b refl (omega arith) (small_level a h.0) h.1
line_text kinds pages started count (command.Start (Compress a b)) h = plain_two (codes "compress ") a b refl (omega arith) (small_level a h.1) h.2
line_text kinds pages started count (command.Start (Reclaim a)) h = plain_one (codes "reclaim ") a refl (omega arith) (small_page a pages count h.1)
line_text kinds pages started count (command.Start Lower) h = plain_word (codes "lower") refl (omega arith)
line_text kinds pages started count (command.Turn a) h = plain_one (codes "turn ") a refl (omega arith) h.2
line_text kinds pages started count (command.TurnAt a b) h = plain_two (codes "turn ") a b refl (omega arith) h.0.2 (small_page b pages count h.1)
line_text kinds pages started count (command.Refuse a) h = plain_one (codes "refuse ") a refl (omega arith) h.2
line_text kinds pages started count (command.Run a b) h = plain_two (codes "run ") a b refl (omega arith) h.0.2 h.1
line_text kinds pages started count (command.Settle a) h = plain_one (codes "settle ") a refl (omega arith) h

-- the first three letters of a line, as one number; of a command's text it says the kind of the command
abbrev letters : List ℕ → ℕ
letters text = get_or text 0 0 * 65536 + get_or text 1 0 * 256 + get_or text 2 0

abbrev kind_of : Command → ℕ
kind_of (command.Start (Operation (Find a))) = 6711662
kind_of (command.Start (FindNear a b)) = 6711662
kind_of (command.Start (Operation (Insert a b))) = 6909555
kind_of (command.Start (InsertPost a b)) = 6909555
kind_of (command.Start (Operation (Put a b))) = 7370100
kind_of (command.Start (PutPost a b)) = 7370100
kind_of (command.Start (Operation (Delete a))) = 6579564
kind_of (command.Start (Operation (Change a b c))) = 6514785
kind_of (command.Start (Operation (Part a))) = 7364978
kind_of (command.Start (Operation (PartDown a))) = 7364978
kind_of (command.Start (PartNear a b)) = 7364978
kind_of (command.Start (Post a b)) = 7368563
kind_of (command.Start (Compress a b)) = 6516589
kind_of (command.Start (Reclaim a)) = 7497059
kind_of (command.Start Lower) = 7106423
kind_of (command.Turn a) = 7632242
kind_of (command.TurnAt a b) = 7632242
kind_of (command.Refuse a) = 7497062
kind_of (command.Run a b) = 7501166
kind_of (command.Settle a) = 7562612

kind_is : (c : Command) → letters (command_text c) ≡ kind_of c
kind_is (command.Start (Operation (Find a))) = refl
kind_is (command.Start (FindNear a b)) = refl
kind_is (command.Start (Operation (Insert a b))) = refl
kind_is (command.Start (InsertPost a b)) = refl
kind_is (command.Start (Operation (Put a b))) = refl
kind_is (command.Start (PutPost a b)) = refl
kind_is (command.Start (Operation (Delete a))) = refl
kind_is (command.Start (Operation (Change a b c))) = refl
kind_is (command.Start (Operation (Part a))) = refl
kind_is (command.Start (Operation (PartDown a))) = refl
kind_is (command.Start (PartNear a b)) = refl
kind_is (command.Start (Post a b)) = refl
kind_is (command.Start (Compress a b)) = refl
kind_is (command.Start (Reclaim a)) = refl
kind_is (command.Start Lower) = refl
kind_is (command.Turn a) = refl
kind_is (command.TurnAt a b) = refl
kind_is (command.Refuse a) = refl
kind_is (command.Run a b) = refl
kind_is (command.Settle a) = refl

other_kind : (c d : Command) → command_text c ≡ command_text d → (kind_of c ≡ kind_of d → ⊥) → ⊥
other_kind c d e apart = apart (sym (kind_is c) ∙ (ap letters e ∙ kind_is d))

pub text_same : (kinds : Kinds) (pages started : ℕ) → IsPageCount pages → (c d : Command) → MayStand kinds pages started c → MayStand kinds pages started d → command_text c ≡ command_text d → c ≡ d
text_same kinds pages started count (command.Start (Operation (Find a))) (command.Start (Operation (Find c))) h k e = ap (λ z. (command.Start (Operation (Find z)))) (one_same a c h k (append_cancel_left (codes "find ") (one a) (one c) e))
text_same kinds pages started count (command.Start (Operation (Find a))) (command.Start (FindNear c d)) h k e = absurd (let at : 32 ≡ 110 = ap (λ t. get_or t 4 0) e in omega arith)
text_same kinds pages started count (command.Start (FindNear a b)) (command.Start (Operation (Find c))) h k e = absurd (let at : 110 ≡ 32 = ap (λ t. get_or t 4 0) e in omega arith)
text_same kinds pages started count (command.Start (FindNear a b)) (command.Start (FindNear c d)) h k e = let same = two_same a b c d h.0 (small_page b pages count h.1) k.0 (small_page d pages count k.1) (append_cancel_left (codes "findnear ") (two a b) (two c d) e) in ap (λ z. (command.Start (FindNear z b))) same.0 ∙ ap (λ z. (command.Start (FindNear c z))) same.1
text_same kinds pages started count (command.Start (Operation (Insert a b))) (command.Start (Operation (Insert c d))) h k e = let same = two_same a b c d h.0 h.1 k.0 k.1 (append_cancel_left (codes "insert ") (two a b) (two c d) e) in ap (λ z. (command.Start (Operation (Insert z b)))) same.0 ∙ ap (λ z. (command.Start (Operation (Insert c z)))) same.1
text_same kinds pages started count (command.Start (Operation (Insert a b))) (command.Start (InsertPost c d)) h k e = absurd (let at : 32 ≡ 112 = ap (λ t. get_or t 6 0) e in omega arith)
text_same kinds pages started count (command.Start (InsertPost a b)) (command.Start (Operation (Insert c d))) h k e = absurd (let at : 112 ≡ 32 = ap (λ t. get_or t 6 0) e in omega arith)
text_same kinds pages started count (command.Start (InsertPost a b)) (command.Start (InsertPost c d)) h k e = let same = two_same a b c d h.0 h.1 k.0 k.1 (append_cancel_left (codes "insertpost ") (two a b) (two c d) e) in ap (λ z. (command.Start (InsertPost z b))) same.0 ∙ ap (λ z. (command.Start (InsertPost c z))) same.1
text_same kinds pages started count (command.Start (Operation (Put a b))) (command.Start (Operation (Put c d))) h k e = let same = two_same a b c d h.0 h.1 k.0 k.1 (append_cancel_left (codes "put ") (two a b) (two c d) e) in ap (λ z. (command.Start (Operation (Put z b)))) same.0 ∙ ap (λ z. (command.Start (Operation (Put c z)))) same.1
text_same kinds pages started count (command.Start (Operation (Put a b))) (command.Start (PutPost c d)) h k e = absurd (let at : 32 ≡ 112 = ap (λ t. get_or t 3 0) e in omega arith)
text_same kinds pages started count (command.Start (PutPost a b)) (command.Start (Operation (Put c d))) h k e = absurd (let at : 112 ≡ 32 = ap (λ t. get_or t 3 0) e in omega arith)
text_same kinds pages started count (command.Start (PutPost a b)) (command.Start (PutPost c d)) h k e = let same = two_same a b c d h.0 h.1 k.0 k.1 (append_cancel_left (codes "putpost ") (two a b) (two c d) e) in ap (λ z. (command.Start (PutPost z b))) same.0 ∙ ap (λ z. (command.Start (PutPost c z))) same.1
text_same kinds pages started count (command.Start (Operation (Delete a))) (command.Start (Operation (Delete c))) h k e = ap (λ z. (command.Start (Operation (Delete z)))) (one_same a c h k (append_cancel_left (codes "delete ") (one a) (one c) e))
text_same kinds pages started count (command.Start (Operation (Change a b c))) (command.Start (Operation (Change x y z))) h k e = let same = three_same a b c x y z h.0 h.1 h.2 k.0 k.1 k.2 (append_cancel_left (codes "change ") (three a b c) (three x y z) e) in ap (λ n. (command.Start (Operation (Change n b c)))) same.0 ∙ ap (λ n. (command.Start (Operation (Change x n c)))) same.1 ∙ ap (λ n. (command.Start (Operation (Change x y n)))) same.2
text_same kinds pages started count (command.Start (Operation (Part a))) (command.Start (Operation (Part c))) h k e = ap (λ z. (command.Start (Operation (Part z)))) (one_same a c h.1 k.1 (append_cancel_left (codes "part ") (one a) (one c) e))
text_same kinds pages started count (command.Start (Operation (Part a))) (command.Start (PartNear c d)) h k e = absurd (let at : 32 ≡ 110 = ap (λ t. get_or t 4 0) e in omega arith)
text_same kinds pages started count (command.Start (PartNear a b)) (command.Start (Operation (Part c))) h k e = absurd (let at : 110 ≡ 32 = ap (λ t. get_or t 4 0) e in omega arith)
text_same kinds pages started count (command.Start (Operation (Part a))) (command.Start (Operation (PartDown c))) h k e = absurd (let at : 32 ≡ 100 = ap (λ t. get_or t 4 0) e in omega arith)
text_same kinds pages started count (command.Start (Operation (PartDown a))) (command.Start (Operation (Part c))) h k e = absurd (let at : 100 ≡ 32 = ap (λ t. get_or t 4 0) e in omega arith)
text_same kinds pages started count (command.Start (Operation (PartDown a))) (command.Start (PartNear c d)) h k e = absurd (let at : 100 ≡ 110 = ap (λ t. get_or t 4 0) e in omega arith)
text_same kinds pages started count (command.Start (PartNear a b)) (command.Start (Operation (PartDown c))) h k e = absurd (let at : 110 ≡ 100 = ap (λ t. get_or t 4 0) e in omega arith)
text_same kinds pages started count (command.Start (Operation (PartDown a))) (command.Start (Operation (PartDown c))) h k e = ap (λ z. (command.Start (Operation (PartDown z)))) (one_same a c h.1 k.1 (append_cancel_left (codes "partdown ") (one a) (one c) e))
text_same kinds pages started count (command.Start (PartNear a b)) (command.Start (PartNear c d)) h k e = let same = two_same a b c d h.1 (small_page b pages count h.2) k.1 (small_page d pages count k.2) (append_cancel_left (codes "partnear ") (two a b) (two c d) e) in ap (λ z. (command.Start (PartNear z b))) same.0 ∙ ap (λ z. (command.Start (PartNear c z))) same.1
text_same kinds pages started count (command.Start (Post a b)) (command.Start (Post c d)) h k e = let same = two_same a b c d (small_level a h.0) h.1 (small_level c k.0) k.1 (append_cancel_left (codes "post ") (two a b) (two c d) e) in ap (λ z. (command.Start (Post z b))) same.0 ∙ ap (λ z. (command.Start (Post c z))) same.1
text_same kinds pages started count (command.Start (Compress a b)) (command.Start (Compress c d)) h k e = let same = two_same a b c d (small_level a h.1) h.2 (small_level c k.1) k.2 (append_cancel_left (codes "compress ") (two a b) (two c d) e) in ap (λ z. (command.Start (Compress z b))) same.0 ∙ ap (λ z. (command.Start (Compress c z))) same.1
text_same kinds pages started count (command.Start (Reclaim a)) (command.Start (Reclaim c)) h k e = ap (λ z. (command.Start (Reclaim z))) (one_same a c (small_page a pages count h.1) (small_page c pages count k.1) (append_cancel_left (codes "reclaim ") (one a) (one c) e))
text_same kinds pages started count (command.Start Lower) (command.Start Lower) h k e = refl
text_same kinds pages started count (command.Turn a) (command.Turn c) h k e = ap (λ z. (command.Turn z)) (one_same a c h.2 k.2 (append_cancel_left (codes "turn ") (one a) (one c) e))
text_same kinds pages started count (command.Turn a) (command.TurnAt c d) h k e = absurd (one_not_two a c d h.2 k.0.2 (append_cancel_left (codes "turn ") (one a) (two c d) e))
text_same kinds pages started count (command.TurnAt a b) (command.Turn c) h k e = absurd (one_not_two c a b k.2 h.0.2 (sym (append_cancel_left (codes "turn ") (two a b) (one c) e)))
text_same kinds pages started count (command.TurnAt a b) (command.TurnAt c d) h k e = let same = two_same a b c d h.0.2 (small_page b pages count h.1) k.0.2 (small_page d pages count k.1) (append_cancel_left (codes "turn ") (two a b) (two c d) e) in ap (λ z. (command.TurnAt z b)) same.0 ∙ ap (λ z. (command.TurnAt c z)) same.1
text_same kinds pages started count (command.Refuse a) (command.Refuse c) h k e = ap (λ z. (command.Refuse z)) (one_same a c h.2 k.2 (append_cancel_left (codes "refuse ") (one a) (one c) e))
text_same kinds pages started count (command.Run a b) (command.Run c d) h k e = let same = two_same a b c d h.0.2 h.1 k.0.2 k.1 (append_cancel_left (codes "run ") (two a b) (two c d) e) in ap (λ z. (command.Run z b)) same.0 ∙ ap (λ z. (command.Run c z)) same.1
text_same kinds pages started count (command.Settle a) (command.Settle c) h k e = ap (λ z. (command.Settle z)) (one_same a c h k (append_cancel_left (codes "settle ") (one a) (one c) e))
text_same kinds pages started count c (command.Start (Operation (Find x))) h k e = absurd (other_kind c (command.Start (Operation (Find x))) e (λ i. omega (arith, i)))
text_same kinds pages started count c (command.Start (Operation (Insert x y))) h k e = absurd (other_kind c (command.Start (Operation (Insert x y))) e (λ i. omega (arith, i)))
text_same kinds pages started count c (command.Start (Operation (Put x y))) h k e = absurd (other_kind c (command.Start (Operation (Put x y))) e (λ i. omega (arith, i)))
text_same kinds pages started count c (command.Start (Operation (Delete x))) h k e = absurd (other_kind c (command.Start (Operation (Delete x))) e (λ i. omega (arith, i)))
text_same kinds pages started count c (command.Start (Operation (Change x y z))) h k e = absurd (other_kind c (command.Start (Operation (Change x y z))) e (λ i. omega (arith, i)))
text_same kinds pages started count c (command.Start (Operation (Part x))) h k e = absurd (other_kind c (command.Start (Operation (Part x))) e (λ i. omega (arith, i)))
text_same kinds pages started count c (command.Start (Operation (PartDown x))) h k e = absurd (other_kind c (command.Start (Operation (PartDown x))) e (λ i. omega (arith, i)))
text_same kinds pages started count c d h k e = absurd (other_kind c d e (λ i. omega (arith, i)))
