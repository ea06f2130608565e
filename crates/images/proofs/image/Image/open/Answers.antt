-- `open` meets its contract: no header, another length, or the words past the header. Assumes nothing.
use mathlib.Core.Path.{◌≡◌, refl, sym, ap, ◌∙◌}
use borrow.Author.Rules.{rules}
use lib.ListN.{get_or}
use Rattle.machine.specs.Images.{size_in}
use Rattle.images.proofs.ImageLaws.{headed, unheaded, found_unheaded, found_misfit, found_words}
use Rattle.images.proofs.image.Image.open.Goals as goal

pub returns-in_default : goal.returns-in_default
returns-in_default c =
    let ws = c.args.words.now in
    let w = c.unwrap_or-head.result in
    let head : w ≡ get_or ws 0 0 = search rules in
    record { opened = tt; refused = found_unheaded ws w head (unheaded w (sym c.size_in.ensures ∙ c.in_default.is)) }

pub returns-then-words-all : goal.returns-then-words-all
returns-then-words-all c =
    let ws = c.args.words.now in
    let w = c.unwrap_or-head.result in
    let head : w ≡ get_or ws 0 0 = search rules in
    let h = headed w c.in-Some.size (sym c.size_in.ensures ∙ c.in-Some.is) in
    record {
      opened = tt;
      refused =
          found_misfit ws w head c.in-Some.size h _ _ c.words_by-all.ensures c.if-words-all.true c.min.ensures;
    }

pub returns : goal.returns
returns c =
    let ws = c.args.words.now in
    let w = c.unwrap_or-head.result in
    let head : w ≡ get_or ws 0 0 = search rules in
    let h = headed w c.in-Some.size (sym c.size_in.ensures ∙ c.in-Some.is) in
    record {
      opened =
          record {
            words_are = refl;
            size_is = h.size_is ∙ ap size_in head;
            refusal_is =
                found_words ws w head c.in-Some.size h (c.if-words-all.false ∙ c.words_by-all.ensures);
          };
      refused = tt;
    }
