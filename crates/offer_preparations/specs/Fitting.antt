-- When a preparation is that of an offer after some versions.
use Rattle.std.specs.Prelude.{◌≡◌, ℕ}
use Rattle.version_copies.specs.SameBodies.{HaveSameBodies}
use Rattle.installed_versions.specs.declared.installed.Installed.{Installed}
use Rattle.offer_preparations.specs.declared.preparation.Preparation.{Preparation}

pub record Fits (p : Preparation) (k last : ℕ) (installed : Installed) : Type 0 where
  pub offer : p.k ≡ k
  pub text : p.last ≡ last
  pub count : p.count ≡ installed.count
  pub names : p.names ≡ installed.names
  pub bodies : HaveSameBodies p.store installed.store
