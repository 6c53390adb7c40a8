-- A worked script of seven lines, and all that is printed for it.
use Rattle.std.specs.Prelude.{◌≡◌, codes}
use Rattle.session.specs.Printed.{printed}

abbrev pub WorkedScript : Type 0
WorkedScript = printed (codes "o v 2\ng 0 7 0 500\ns 0 3\ng 0 7 9 900\nd 3 1\nr 1\nd 4 1\n") ≡ codes "1 ok\n2 ok\n3 ok\n4 ok\n5 ok\n6 0201000CE220A8397B1DCDAF\n7 no 6\n"
