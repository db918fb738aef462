use Rattle.std.proofs.Common.{ap, refl}
use Rattle.jc_control.specs.declared.controller.Known.{Known}
use Rattle.jc_control.proofs.LawFacts.{known_of-begun, known_of-other, known_of-same}
use Rattle.jc_control.proofs.laws.known_stands_by_key.Goals as goal

pub returns : goal.returns
returns c = record {
  floor = λ k schedule version. ap (λ (known : Known). known.floor) (known_of-same k schedule _);
  same_backoff = λ k schedule version. ap (λ (known : Known). known.backoff) (known_of-same k schedule _);
  others_answered = λ k j schedule version other. known_of-other k j schedule _ other;
  backoff = λ k schedule backoff. ap (λ (known : Known). known.backoff) (known_of-same k schedule _);
  same_floor = λ k schedule backoff. ap (λ (known : Known). known.floor) (known_of-same k schedule _);
  others_kept = λ k j schedule backoff other. known_of-other k j schedule _ other;
  begun = known_of-begun;
  ended = λ j k schedule end now. refl;
  idle = λ j. refl;
}
