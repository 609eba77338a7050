-- What a call comes to, by what was taken out and what was put back.
use Rattle.std.proofs.Common.{◌≡◌, ℕ, Option, Some, None, true, false, subst}
use Rattle.ckd_c.specs.declared.code.Code.{Code}
use Rattle.ckd_c.specs.declared.code.Code.TheVariants as codes
use Rattle.ckd_c.specs.declared.opened.Opened.{Opened}
use Rattle.ckd_c.specs.Codes.{number_of}
use Rattle.ckd_c.specs.Calls.{Closes, Comes, How, Opens, any_runs}

module _ (how : How) where
  pub an_open_one_went : {old new : Option Opened} {n : ℕ} (code : Code) (x y : Opened) → old ≡ Some x → new ≡ Some y → n ≡ number_of code → how code x y → Comes how old new n
  an_open_one_went code x y was is told came = rw was (rw is (record { code = code; is = told; came = came }))

  -- the same, where what was taken out was lent under another name
  pub a_lent_one_went : {old new : Option Opened} {n : ℕ} (code : Code) (x lent y : Opened) → lent ≡ x → old ≡ Some x → new ≡ Some y → n ≡ number_of code → how code lent y → Comes how old new n
  a_lent_one_went code x lent y same was is told came = an_open_one_went code x y was is told (subst (λ (z : Opened). how code z y) same came)

  pub a_closed_one_is_refused : {old new : Option Opened} {n : ℕ} → old ≡ None → new ≡ None → n ≡ number_of codes.Closed → Comes how old new n
  a_closed_one_is_refused was is told = rw was (is, told)

-- what is closed

pub a_closed_one_is_not_closed : {old new : Option Opened} {n : ℕ} → old ≡ None → new ≡ None → n ≡ number_of codes.Closed → Closes old new n
a_closed_one_is_not_closed was is told = rw was (is, told)

pub one_that_runs_stays_open : {old new : Option Opened} {n : ℕ} (x : Opened) → old ≡ Some x → any_runs x.subsystem.devices.items ≡ true → new ≡ Some x → n ≡ number_of codes.Running → Closes old new n
one_that_runs_stays_open x was busy is told = rw was (rw busy (is, told))

pub one_at_rest_is_closed : {old new : Option Opened} {n : ℕ} (x : Opened) → old ≡ Some x → any_runs x.subsystem.devices.items ≡ false → new ≡ None → n ≡ number_of codes.Done → Closes old new n
one_at_rest_is_closed x was rests is told = rw was (rw rests (is, told))

-- what is opened

module _ (new : Opened → Type 0) where
  pub an_open_one_stays : {old behind : Option Opened} {n : ℕ} (x : Opened) → old ≡ Some x → behind ≡ Some x → n ≡ number_of codes.Open → Opens new old behind n
  an_open_one_stays x was is told = rw was (is, told)

  pub a_new_one_is_open : {old behind : Option Opened} {n : ℕ} (y : Opened) → old ≡ None → behind ≡ Some y → n ≡ number_of codes.Done → new y → Opens new old behind n
  a_new_one_is_open y was is told so = rw was (rw is (told, so))

  pub none_is_open : {old behind : Option Opened} (n : ℕ) → old ≡ None → behind ≡ None → Opens new old behind n
  none_is_open n was is = rw was (rw is tt)
