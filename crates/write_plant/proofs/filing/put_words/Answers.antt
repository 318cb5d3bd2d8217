-- `put_words` meets its contract.
use Rattle.std.proofs.Common.{◌≡◌, ℕ, length, get_or, List, refl, ◌∙◌, ap, arith}
use Rattle.std.proofs.lemmas.List.Edits.{sets}
use Rattle.base_words.specs.Word.{u32s}
use Rattle.base_lists.specs.Loops.{build}
use Rattle.base_lists.proofs.Build.{build_back}
use Rattle.write_plant.proofs.Stored.{words_turn}
use Rattle.write_plant.proofs.filing.put_words.Goals as goal

pub loop-k-init : goal.loop-k-init
unfolding build
loop-k-init c = refl

pub loop-k-preserved : goal.loop-k-preserved
loop-k-preserved c =
    words_turn c.args.s.now c.args.at (λ i. get_or c.args.ns.now i 0) c.loop-k.k _ c.loop-k.s _ c.loop-k.invariant refl c.put_word.ensures

pub returns : goal.returns
returns c =
    let end : length c.args.ns.now ≡ c.loop-k.k = omega arith in
    c.loop-k.invariant ∙ ap (λ (l : List ℕ). sets c.args.s.now c.args.at (u32s l)) (build_back c.args.ns.now c.loop-k.k 0 end)
