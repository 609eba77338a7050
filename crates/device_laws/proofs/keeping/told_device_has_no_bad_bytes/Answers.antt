use Rattle.std.proofs.Common.{◌≡◌, ◌*◌, refl, subst}
use Rattle.device_laws.specs.Standing.{LooksAt}
use Rattle.device_laws.specs.Whole.{marks_device}
use Rattle.device_laws.proofs.ChainFeeds.{chain_feeds, runs_looks}
use Rattle.device_laws.proofs.CleanParts.{Holds, NoBadWork, command_clean, second_clean, background_clean}
use Rattle.device_laws.proofs.KeepLaws.{clean_ran}
use Rattle.device_laws.proofs.KeptHistories.{data_checks}
use Rattle.device_laws.proofs.WholeCommand.{command_whole}
use Rattle.device_laws.proofs.WholeParts.{second_whole, background_whole}
use Rattle.device_laws.proofs.keeping.told_device_has_no_bad_bytes.Goals as goal

pub returns : goal.returns
returns g c = record {
  command = λ v w d e h others u z a i none runs has r.
      let n = d.store.cylinders in
      let on = d.store.geometry in
      clean_ran (λ y _. data_checks y.history ≡ data_checks d.history) (λ y _. Holds (data_checks d.history) y) others h
      (command_whole (n * 15) on (LooksAt n on) (chain_feeds n on) v w d h i refl refl none (λ chain q is needs. runs_looks n on chain q (runs chain is) needs))
      (command_clean (marks_device v w d)) (λ x y f. f) has r;
  second = λ v w d e h others u z a i suits has r.
      clean_ran (λ y _. data_checks y.history ≡ data_checks d.history) (λ y _. Holds (data_checks d.history) y) others h
      (second_whole v w d h i suits) (second_clean (marks_device v w d)) (λ x y f. f) has r;
  background = λ v w d e h others u z a side i none has r is.
      subst NoBadWork is
      (clean_ran (λ y b. NoBadWork b) (λ y b. NoBadWork b) others h (background_whole v w d h i none) (background_clean (marks_device v w d))
      (λ x y f. f) has r);
}
