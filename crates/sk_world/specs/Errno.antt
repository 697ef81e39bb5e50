-- The errors of the calls: errno(3).
use Rattle.std.specs.Prelude.{ℕ, Result, Ok, Err}
use Rattle.sk_world.specs.declared.errno.Errno.{Errno}
use Rattle.sk_world.specs.declared.errno.Errno.TheVariants.{Eperm, Enoent, Esrch, Eintr, Echild, Eagain, Enomem, Eacces, Efault, Einval, Enosys, Eopnotsupp}

-- the number of an error on Linux: errno(3), with the numbers of errno-base.h and errno.h
abbrev pub number_of : Errno → ℕ
number_of Eperm = 1
number_of Enoent = 2
number_of Esrch = 3
number_of Eintr = 4
number_of Echild = 10
number_of Eagain = 11
number_of Enomem = 12
number_of Eacces = 13
number_of Efault = 14
number_of Einval = 22
number_of Enosys = 38
number_of Eopnotsupp = 95

-- what a call answers whose row is a new state or an error
abbrev pub answer_of : {A : Type 0} → Result A Errno → Result (Unit {0}) Errno
answer_of (Ok _) = Ok tt
answer_of (Err e) = Err e
