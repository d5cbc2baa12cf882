use Rattle.std.proofs.Common.{◌≡◌, refl, true, false}
use Rattle.c_lexer.specs.Words.{is_one_of, keywords, library_words}
use Rattle.c_lexer.proofs.tables.kind_of_word.Goals as goal

pub returns-then-is_one_of : goal.returns-then-is_one_of
unfolding keywords
returns-then-is_one_of c = let h : true ≡ is_one_of keywords c.args.word.now = c.if-is_one_of.ensures in rw (← h) refl

pub returns-then-is_one_of-2 : goal.returns-then-is_one_of-2
unfolding keywords library_words
returns-then-is_one_of-2 c =
    let h : false ≡ is_one_of keywords c.args.word.now = c.if-is_one_of.ensures in
    let k : true ≡ is_one_of library_words c.args.word.now = c.if-is_one_of-2.ensures in
    rw (← h, ← k) refl

pub returns-else-is_one_of-2 : goal.returns-else-is_one_of-2
unfolding keywords library_words
returns-else-is_one_of-2 c =
    let h : false ≡ is_one_of keywords c.args.word.now = c.if-is_one_of.ensures in
    let k : false ≡ is_one_of library_words c.args.word.now = c.if-is_one_of-2.ensures in
    rw (← h, ← k) refl
