use Rattle.std.proofs.Common.{◌≡◌, ◌++◌, [], ℕ, List, length, take, drop, sym, ◌∙◌, ap, subst, arith, take-append-drop}
use Rattle.std.proofs.lemmas.List.{append-nil, nil_from_length, length-append, length-take-le}
use Rattle.byteorder.specs.Endian.{little_bytes, little_number}
use Rattle.bl_image.specs.Images.{word_bytes, Fits64}
use Rattle.bl_image.proofs.Chunks.{length-word_bytes}
use Rattle.bl_journal.proofs.Spelling.{again, read_more, AreBytes, AreBytes-take, AreBytes-drop}
use Rattle.bl_journal.proofs.words.words_in.Goals as goal

pub returns-then-bytes-ne0 : goal.returns-then-bytes-ne0
returns-then-bytes-ne0 c = record { words = λ words is. c.if-bytes-ne0.true (omega (arith, ap length is, length-word_bytes words)) }

pub loop-rest-init : goal.loop-rest-init
loop-rest-init c =
    let none : c.in_ok-words.words.items ≡ [] = c.in_ok-words.ensures.items in
    record { spelled = ap (λ (l : List ℕ). word_bytes l ++ c.args.bytes.now) none; small = λ i. omega (arith, c.type_inv.bytes i) }

pub loop-rest-preserved : goal.loop-rest-preserved
loop-rest-preserved c =
    let rest : List ℕ = c.loop-rest.rest.now in
    let front : c.split_at.result.0.now ≡ take 8 rest = c.split_at.ensures.front in
    let back : c.split_at.result.1.now ≡ drop 8 rest = c.split_at.ensures.back in
    let long : length (take 8 rest) ≡ 8 = length-take-le 8 rest c.loop-rest-test.true in
    let small_first : AreBytes (take 8 rest) = AreBytes-take 8 rest c.loop-rest.invariant.small in
    let small_rest : AreBytes (drop 8 rest) = AreBytes-drop 8 rest c.loop-rest.invariant.small in
    let spelled : little_bytes 8 c.read_u64.result ≡ take 8 rest = ap (little_bytes 8) (c.read_u64.ensures ∙ ap (little_number 8) front) ∙ again (take 8 rest) long small_first in
    record {
      spelled = read_more c.loop-rest.words.items c.push.new.self.items (take 8 rest) c.split_at.result.1.now rest c.args.bytes.now c.read_u64.result
          c.loop-rest.invariant.spelled (ap (λ (l : List ℕ). take 8 rest ++ l) back ∙ take-append-drop 8 rest) spelled c.in_ok-push.ensures.items;
      small = subst AreBytes (sym back) small_rest;
    }

pub returns : goal.returns
returns c =
    let rest : List ℕ = c.loop-rest.rest.now in
    let words : List ℕ = c.loop-rest.words.items in
    let all = c.loop-rest.invariant.spelled in
    let many : length rest ≡ 0 = omega (arith, ap length all, length-append (word_bytes words) rest, length-word_bytes words, c.if-bytes-ne0.false, c.loop-rest-test.false) in
    let none : rest ≡ [] = nil_from_length rest many in
    record {
      words = (
        sym (append-nil (word_bytes words)) ∙ ap (λ (l : List ℕ). word_bytes words ++ l) (sym none) ∙ all,
        subst Fits64 c.as_slice.ensures.value c.are_of_64_bits.ensures.fits,
      );
    }
