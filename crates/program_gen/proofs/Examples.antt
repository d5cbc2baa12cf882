-- The texts of small sizes, by computing.
use Rattle.std.proofs.Common.{◌≡◌, refl, ◌++◌}
use Rattle.std.specs.Prelude.{codes}
use Rattle.std.specs.Fmt.{digits}
use Rattle.program_gen.specs.Generated.{program_text, offer_text}

program_of_one : program_text 7 1
    ≡ codes "int g;\nint f0(void) { g = g + 8; return 1; }\nint main(void) {\ndsu_tx { printf(\"%d\\n\", f0() + f0()); }\nreturn 0; }\n"
unfolding digits
program_of_one = refl

offer_of_one : offer_text 7 1
    ≡ codes "int g;\nint f0(void) { g = g + 9; return 1; }\nint main(void) {\ndsu_tx { printf(\"%d\\n\", f0() + f0()); }\nreturn 0; }\n"
unfolding digits
offer_of_one = refl

-- an offer of three changes the second
offer_of_three : offer_text 7 3
    ≡ codes "int g;\nint f0(void) { g = g + 8; return 1; }\nint f1(void) { int s = f0(); g = g + 2; return s; }\n"
    ++ codes "int f2(void) { int s = f0(); g = g + 0; return s; }\nint main(void) {\ndsu_tx { printf(\"%d\\n\", f0() + f0()); }\n"
    ++ codes "dsu_tx { printf(\"%d\\n\", f1() + f2()); }\ndsu_tx { printf(\"%d\\n\", f2() + f1()); }\nreturn 0; }\n"
unfolding digits
offer_of_three = refl
