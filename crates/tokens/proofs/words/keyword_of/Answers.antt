use Rattle.std.proofs.Common.{[], ◌∷◌, length, sym, refl, ap, arith}
use Rattle.std.specs.List.{find}
use Rattle.std.specs.Str.{bytes_eq}
use Rattle.tokens.specs.declared.types.Keyword.TheVariants.{Int, Ref, Else, While, Free, Print, Nil}
use Rattle.tokens.specs.Spelling.{keyword_text}
use Rattle.tokens.proofs.Keywords.{keyword_by_length, among_either, keywords_none}
use Rattle.tokens.proofs.words.keyword_of.Goals as goal

pub returns-in-1 : goal.returns-in-1
returns-in-1 c = keyword_by_length c.args.word.now 1 _ c.in-1.is c.spelled.ensures

pub returns-in-2 : goal.returns-in-2
returns-in-2 c = keyword_by_length c.args.word.now 2 _ c.in-2.is c.spelled-in-2.ensures

pub returns-in-3 : goal.returns-in-3
returns-in-3 c =
    let word = c.args.word.now in
    let two = among_either word (Int ∷ []) (Ref ∷ []) _ _ _ c.spelled-in-3.ensures c.spelled-in-3-2.ensures c.or.ensures in
    keyword_by_length word 3 _ c.in-3.is (among_either word (Int ∷ Ref ∷ []) (Nil ∷ []) _ _ _ two c.spelled-in-3-3.ensures c.or-in-3.ensures)

pub returns-in-4 : goal.returns-in-4
returns-in-4 c =
    let word = c.args.word.now in
    keyword_by_length word 4 _ c.in-4.is (among_either word (Else ∷ []) (Free ∷ []) _ _ _ c.spelled-in-4.ensures c.spelled-in-4-2.ensures c.or-in-4.ensures)

pub returns-in-5 : goal.returns-in-5
returns-in-5 c =
    let word = c.args.word.now in
    keyword_by_length word 5 _ c.in-5.is (among_either word (While ∷ []) (Print ∷ []) _ _ _ c.spelled-in-5.ensures c.spelled-in-5-2.ensures c.or-in-5.ensures)

pub returns-in-6 : goal.returns-in-6
returns-in-6 c = keyword_by_length c.args.word.now 6 _ c.in-6.is c.spelled-in-6.ensures

pub returns-in-7 : goal.returns-in-7
returns-in-7 c = keyword_by_length c.args.word.now 7 _ c.in-7.is c.spelled-in-7.ensures

pub returns-in_default : goal.returns-in_default
returns-in_default c =
    let n = length c.args.word.now in
    let none = keywords_none n (λ e. omega arith) (λ e. omega arith) (λ e. omega arith) (λ e. omega arith) (λ e. omega arith) (λ e. omega arith) (λ e. omega arith) in
    keyword_by_length c.args.word.now n _ refl (sym (ap (find (λ k. bytes_eq c.args.word.now (keyword_text k))) none))
