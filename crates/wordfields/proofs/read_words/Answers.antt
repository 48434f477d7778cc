-- `read_words` meets its contract. Assumes nothing.
use mathlib.Core.Path.{refl, sym}
use lib.ListN.{length}
use lib.Seq.{length-take-le}
use Rattle.wordfields.proofs.Words.{within, even_length, short_length, not_bytes, odd_bytes, few_bytes, good_bytes}
use Rattle.wordfields.proofs.read_words.Goals as goal

pub returns-in_default : goal.returns-in_default
returns-in_default c = not_bytes (length c.args.words.now) c.args.field.now _ _ _ c.in_default.ensures c.requires.0 refl

pub returns-then-n-eq1 : goal.returns-then-n-eq1
returns-then-n-eq1 c =
    odd_bytes (length c.args.words.now) c.args.field.now _ _ _ c.in-Some.ensures c.requires.0 _ refl c.if-n-eq1.true

pub slice_bounds-fill_words-end : goal.slice_bounds-fill_words-end
slice_bounds-fill_words-end c =
    within (length c.args.words.now) c.requires.0 c.read_bytes.auto.out
    (few_bytes (length c.args.words.now) c.args.field.now _ _ _ c.in-Some.ensures c.requires.0 _ refl c.if-n-eq1.false)

pub slice_bounds-fill_words-end-2 : goal.slice_bounds-fill_words-end-2
slice_bounds-fill_words-end-2 c =
    let b = c.read_bytes in
    sym (length-take-le _ b.new.out
    (within (length c.args.words.now) c.requires.0 b.auto.out
    (few_bytes (length c.args.words.now) c.args.field.now _ _ _ c.in-Some.ensures c.requires.0 _ refl c.if-n-eq1.false)))

pub fill_words-requires : goal.fill_words-requires
fill_words-requires c =
    let b = c.read_bytes in
    let few = few_bytes (length c.args.words.now) c.args.field.now _ _ _ c.in-Some.ensures c.requires.0 _ refl c.if-n-eq1.false in
    let size = length-take-le c.in-Some.n b.new.out (within (length c.args.words.now) c.requires.0 b.auto.out few) in
    (even_length size c.if-n-eq1.false, short_length size few, c.requires.1)

pub returns : goal.returns
returns c =
    good_bytes (length c.args.words.now) c.args.field.now _ _ _ c.in-Some.ensures c.requires.0 _ refl c.if-n-eq1.false _ c.fill_words.ensures
